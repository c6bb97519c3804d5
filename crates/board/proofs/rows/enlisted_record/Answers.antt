use Rattle.std.proofs.Common.{◌≡◌, ℕ, sym, ap, ◌∙◌, rules}
use Rattle.rules.specs.State as rules
use Rattle.flood.specs.View.{wired, cells_view}
use Rattle.flood.proofs.Arrays.{cell_read}
use Rattle.flood.proofs.Made.{made_same}
use Rattle.rules.specs.declared.Mark.{Mark}
use Rattle.rules.specs.declared.Mark.TheVariants.{Unmarked}
use Rattle.rules.specs.Root.{root_mark}
use Rattle.board.specs.View.{nodes_view, is_joined}
use Rattle.board.proofs.Records.{node_read}
use Rattle.board.proofs.Slots.{empty_row, made, rooted_other, rooted_joined}
use Rattle.board.proofs.rows.enlisted_record.Goals as goal

pub returns-then-joined : goal.returns-then-joined
returns-then-joined c =
    let w = wired c.args.board.now.count c.args.ends.now.at in
    let cells = cells_view c.args.board.now.count c.args.cells.now in
    let is = cell_read c.args.board.now.count c.args.cells.now c.args.node c.requires in
    let each = made_same _ (λ (p : ℕ) (x : Mark). x ≡ root_mark w (nodes_view c.args.board.now) cells c.args.node p) _ (λ i y q told. (search rules, search rules)) c.from_fn-held.result 4 Unmarked c.from_fn-held.ensures.items in
    made w (nodes_view c.args.board.now) cells c.args.root c.args.node _ _ _
    (ap (λ (x : rules.Node). x.live) (node_read c.args.board.now c.args.node c.requires))
    c.from_fn-held.ensures.items.long each
    (empty_row c.args.board.now.count c.args.board.now.count_few)
    ∙ sym (rooted_joined w (nodes_view c.args.board.now) cells c.args.root c.args.node (ap is_joined is ∙ sym c.joined.ensures ∙ c.if-joined.true))

pub returns-else-joined : goal.returns-else-joined
returns-else-joined c =
    let is = cell_read c.args.board.now.count c.args.cells.now c.args.node c.requires in
    sym (rooted_other (wired c.args.board.now.count c.args.ends.now.at) (nodes_view c.args.board.now) (cells_view c.args.board.now.count c.args.cells.now) c.args.root c.args.node
    (ap is_joined is ∙ sym c.joined.ensures ∙ c.if-joined.false)
    ∙ node_read c.args.board.now c.args.node c.requires)
