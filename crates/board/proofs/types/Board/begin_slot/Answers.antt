use Rattle.rules.specs.declared.Act.{Act}
use Rattle.std.proofs.Common.{◌≡◌, ℕ, sym, refl, ap, ap₂, ◌∙◌}
use Rattle.rules.specs.State as rules
use Rattle.rules.specs.Root.{rooted}
use Rattle.rules.specs.Slot.{act_of}
use Rattle.rules.specs.declared.Act.TheVariants.{Silent, Root, Member}
use Rattle.flood.specs.View.{wired}
use Rattle.board.specs.Begun.{Begun}
use Rattle.board.specs.View.{nodes_view}
use Rattle.board.proofs.Begins.{acts_read, begins_silent, begins_root, begins_member, told_from}
use Rattle.board.proofs.Boards.{node_past}
use Rattle.board.specs.declared.types.Board.{Board}
use Rattle.board.proofs.types.Board.begin_slot.Goals as goal
use Rattle.board.proofs.types.Board.begin_slot.Goals.{in-Silent, in-Root, in-Member}

pub returns-then-owner-self : goal.returns-then-owner-self
returns-then-owner-self c =
    let silent = begins_silent (wired c.args.self.now.count c.args.ends.now.at) (nodes_view c.args.self.now) c.args.owner
    (ap (λ (x : rules.Node). act_of x.mode x.hand) (sym (node_past c.args.self.now c.args.owner c.if-owner-self.true))) in
    record { answer = c.answer.ensures ∙ ap (λ (x : Begun). x.answer) (sym silent); nodes = ap (λ (x : Begun). x.nodes) (sym silent); count = refl }

pub returns : goal.returns
returns c =
    let w = wired c.args.self.now.count c.args.ends.now.at in
    let nodes = nodes_view c.args.self.now in
    let acts = λ (act : Act) (is : c.act-act.result ≡ act). acts_read c.args.self.now w c.args.owner act c.if-owner-self.false (sym is ∙ c.act-act.ensures) in
    let answered = λ (act : Act) (cycles : ℕ) (is : c.act-act.result ≡ act) (count : c.match-act.cycles ≡ cycles).
    c.answer-2.ensures ∙ ap₂ (λ (x : Act) (k : ℕ). record { owner = c.args.owner; act = x; cycles = k }) is count in
    elim c.match-act.branch [
      | in-Silent b ↦
          let silent = begins_silent w nodes c.args.owner (acts Silent b.in-Silent.is) in
          record {
            answer = answered Silent 0 b.in-Silent.is b.cycles-is ∙ ap (λ (x : Begun). x.answer) (sym silent);
            nodes = ap nodes_view b.self-is ∙ ap (λ (x : Begun). x.nodes) (sym silent);
            count = ap (λ (x : Board). x.count) b.self-is;
          }
      | in-Root b ↦
          let is = begins_root w nodes c.args.owner (acts Root b.in-Root.is) in
          let says = told_from c.args.self.now.count b.make_root.new.self.count c.args.ends.now.at (rooted w nodes c.args.owner) (nodes_view b.make_root.new.self) c.args.owner Root
          b.speak-cycles.result (nodes_view b.speak-cycles.new.self) b.make_root.ensures.count b.make_root.ensures.nodes b.speak-cycles.ensures.cycles b.speak-cycles.ensures.board.nodes in
          record {
            answer = answered Root b.speak-cycles.result b.in-Root.is b.cycles-is ∙ ap (λ (x : Begun). x.answer) (sym (is ∙ says));
            nodes = ap nodes_view b.self-is ∙ ap (λ (x : Begun). x.nodes) (sym (is ∙ says));
            count = ap (λ (x : Board). x.count) b.self-is ∙ b.speak-cycles.ensures.board.count ∙ b.make_root.ensures.count;
          }
      | in-Member b ↦
          let is = begins_member w nodes c.args.owner (acts Member b.in-Member.is) in
          let says = told_from c.args.self.now.count c.args.self.now.count c.args.ends.now.at nodes nodes c.args.owner Member
          b.speak-cycles-in-Member.result (nodes_view b.speak-cycles-in-Member.new.self) refl refl b.speak-cycles-in-Member.ensures.cycles b.speak-cycles-in-Member.ensures.board.nodes in
          record {
            answer = answered Member b.speak-cycles-in-Member.result b.in-Member.is b.cycles-is ∙ ap (λ (x : Begun). x.answer) (sym (is ∙ says));
            nodes = ap nodes_view b.self-is ∙ ap (λ (x : Begun). x.nodes) (sym (is ∙ says));
            count = ap (λ (x : Board). x.count) b.self-is ∙ b.speak-cycles-in-Member.ensures.board.count;
          }
    ]
