use Rattle.std.proofs.Common.{◌<◌, ◌≤◌, Bool, cond, sym, ap, ◌∙◌, arith}
use Rattle.std.proofs.lemmas.Bool.{lt-ltb, le-ltb}
use Rattle.rules.specs.declared.Mark.TheVariants.{Up, Down}
use Rattle.rules.specs.Root.{order}
use Rattle.board.proofs.Marking.{mark_dead, mark_nowhere, mark_far}
use Rattle.board.proofs.Records.{live_read}
use Rattle.flood.specs.View.{wired, cells_view}
use Rattle.board.specs.View.{nodes_view}
use Rattle.board.proofs.rows.mark_for.Goals as goal

pub returns-then-not-live : goal.returns-then-not-live
returns-then-not-live c =
    sym (mark_dead (wired c.args.board.now.count c.args.ends.now.at) (nodes_view c.args.board.now) (cells_view c.args.board.now.count c.args.cells.now) c.args.node c.args.port
    (live_read c.args.board.now c.args.node c.args.port c.requires.0 ∙ c.if-not-live.true))

pub returns-in-None : goal.returns-in-None
returns-in-None c =
    sym (mark_nowhere (wired c.args.board.now.count c.args.ends.now.at) (nodes_view c.args.board.now) (cells_view c.args.board.now.count c.args.cells.now) c.args.node c.args.port
    (live_read c.args.board.now c.args.node c.args.port c.requires.0 ∙ c.if-not-live.false)
    (sym c.far_end.ensures ∙ c.in-None.is))

pub returns-then-order_of : goal.returns-then-order_of
returns-then-order_of c =
    let cells = cells_view c.args.board.now.count c.args.cells.now in
    let far = order c.args.board.now.count cells c.in-Some.far in
    let own = order c.args.board.now.count cells c.args.node in
    let told : far < own = omega (arith, c.order_of.ensures, c.order_of-in-Some.ensures, c.if-order_of.true) in
    sym (mark_far (wired c.args.board.now.count c.args.ends.now.at) (nodes_view c.args.board.now) cells c.args.node c.args.port _ _
    (live_read c.args.board.now c.args.node c.args.port c.requires.0 ∙ c.if-not-live.false)
    (sym c.far_end.ensures ∙ c.in-Some.is)
    ∙ ap (λ (b : Bool). cond b Up Down) (lt-ltb far own told))

pub returns-else-order_of : goal.returns-else-order_of
returns-else-order_of c =
    let cells = cells_view c.args.board.now.count c.args.cells.now in
    let far = order c.args.board.now.count cells c.in-Some.far in
    let own = order c.args.board.now.count cells c.args.node in
    let told : own ≤ far = omega (arith, c.order_of.ensures, c.order_of-in-Some.ensures, c.if-order_of.false) in
    sym (mark_far (wired c.args.board.now.count c.args.ends.now.at) (nodes_view c.args.board.now) cells c.args.node c.args.port _ _
    (live_read c.args.board.now c.args.node c.args.port c.requires.0 ∙ c.if-not-live.false)
    (sym c.far_end.ensures ∙ c.in-Some.is)
    ∙ ap (λ (b : Bool). cond b Up Down) (le-ltb far own told))
