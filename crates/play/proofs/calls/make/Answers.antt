use Rattle.std.proofs.Common.{◌≡◌, ℕ, ◌-◌, ◌≤◌, List, length, take, drop, ap, ◌∙◌, arith, length-take-le}
use Rattle.std.proofs.lemmas.Result.{IfOk-weaker}
use Rattle.reply.specs.Text.{step_lines}
use Rattle.play.proofs.calls.make.Goals as goal

front_length : {X : Type 0} (xs : List X) (n : ℕ) → n ≤ length xs → length (take (n - 0) (drop 0 xs)) ≡ n
front_length xs n h = let less : n - 0 ≤ length xs = omega arith in length-take-le (n - 0) xs less ∙ omega arith

pub returns : goal.returns
returns g c = record {
  makes = record {
    reply = c.perform-reply.result;
    before = c.new-tray.result;
    after = c.perform-reply.new.tray;
    empty = c.new-tray.ensures.filled;
    places = ap length c.new-tray.ensures.rest ∙ front_length _ c.places.result c.places.ensures.bound ∙ c.places.ensures.value;
    performs = c.perform-reply.ensures.performs;
    text = IfOk-weaker c.call_lines.result _ _ (λ t e. e ∙ ap (step_lines c.args.call c.perform-reply.result) c.as_slice.ensures) c.call_lines.ensures;
  };
  wiring = c.perform-reply.ensures.wiring;
}
