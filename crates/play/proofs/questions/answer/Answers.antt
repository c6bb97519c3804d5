use Rattle.std.proofs.Common.{◌≡◌, refl, rules}
use Rattle.std.proofs.lemmas.Result.{IfOk-weaker}
use Rattle.play.specs.Asks.{mode_told, entry_told, marks_told}
use Rattle.play.proofs.Asked.{asks_mode, asks_marks, asks_entry, asks_calm}
use Rattle.play.proofs.questions.answer.Goals as goal

pub returns-in-Mode : goal.returns-in-Mode
returns-in-Mode g c =
    let told : c.map.result ≡ mode_told c.mode.result = search rules in
    IfOk-weaker c.answer_line.result _ _
    (λ t e. asks_mode _ (g.met.W.Wiring.sound c.args.wall.now.wiring).few_nodes _ c.args.question _ _ c.in-Mode.node _ _ e c.in-Mode.is c.as_byte.ensures c.mode.ensures told)
    c.answer_line.ensures

pub returns-in-Entry : goal.returns-in-Entry
returns-in-Entry g c =
    let told : c.map-in-Entry.result ≡ entry_told c.entry-entry.result = search rules in
    IfOk-weaker c.answer_line-in-Entry.result _ _
    (λ t e. asks_entry _ (g.met.W.Wiring.sound c.args.wall.now.wiring).few_nodes _ c.args.question _ _ c.in-Entry.node c.in-Entry.destination _ _ _ e c.in-Entry.is c.as_byte-in-Entry.ensures c.as_byte-in-Entry-2.ensures c.entry-entry.ensures told)
    c.answer_line-in-Entry.ensures

pub returns-in-Marks : goal.returns-in-Marks
returns-in-Marks g c =
    let told : c.map-in-Marks.result ≡ marks_told c.marks.result = search rules in
    IfOk-weaker c.answer_line-in-Marks.result _ _
    (λ t e. asks_marks _ (g.met.W.Wiring.sound c.args.wall.now.wiring).few_nodes _ c.args.question _ _ c.in-Marks.node _ _ e c.in-Marks.is c.as_byte-in-Marks.ensures c.marks.ensures told)
    c.answer_line-in-Marks.ensures

pub returns-in-Calm : goal.returns-in-Calm
returns-in-Calm g c =
    IfOk-weaker c.answer_line-in-Calm.result _ _
    (λ t e. asks_calm _ (g.met.W.Wiring.sound c.args.wall.now.wiring).few_nodes _ c.args.question _ _ c.calm.result e c.in-Calm.is c.calm.ensures refl)
    c.answer_line-in-Calm.ensures
