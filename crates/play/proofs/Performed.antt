-- What was made on the wall with numbers brought down to 255 is what the script's call asks for.
use Rattle.std.proofs.Common.{◌≡◌, ℕ, ◌≤◌, min, Result, sym, refl, subst, subst₂}
use Rattle.wiring.specs.Layout.{Layout}
use Rattle.chooser.specs.declared.ports.PortSet.{PortSet}
use Rattle.tray.specs.declared.types.Tray.{Tray}
use Rattle.rules.specs.declared.Outcome.{Outcome}
use Rattle.rules.specs.declared.Refusal.{Refusal}
use Rattle.rules.specs.State.{State}
use Rattle.rules.specs.Runs as runs
use Rattle.rules.specs.Runs.{Does, cut, hand, post}
use Rattle.script.specs.declared.line.Call.{Call}
use Rattle.script.specs.declared.line.Call.TheVariants.{Cut, Hand, Post}
use Rattle.reply.specs.declared.types.Reply.{Reply}
use Rattle.play.specs.Performs.{Performs, Plainly, told}
use Rattle.play.proofs.Clamped.{cut_clamped, hand_clamped, post_clamped}

module _ {C : Type 0} (picks : C → PortSet → ℕ → C → Type 0) (layout : Layout) (few : layout.count ≤ 64) where
  module _ (call : Call) (reply : Result Reply Refusal) (answer : runs.Reply) (said : told reply ≡ answer) (s s' : State) (tray : Tray Outcome) (c c' : C) (stays : c' ≡ c) where
    plainly : (made : runs.Call) → Does layout s made answer s' → Plainly picks layout made reply s tray c s' tray c'
    plainly made did = record { does = subst (λ r. Does layout s made r s') (sym said) did; tray_stays = refl; chooser_stays = stays }

    pub cut_performed : (n p a b : ℕ) → call ≡ Cut n p → a ≡ min n 255 → b ≡ min p 255 → Does layout s (cut a b) answer s' → Performs picks layout call reply s tray c s' tray c'
    cut_performed n p a b is e f did =
        subst (λ x. Performs picks layout x reply s tray c s' tray c') (sym is)
        (plainly (cut n p) (cut_clamped layout few s answer s' n p (subst₂ (λ x y. Does layout s (cut x y) answer s') e f did)))

    pub hand_performed : (n a : ℕ) → call ≡ Hand n → a ≡ min n 255 → Does layout s (hand a) answer s' → Performs picks layout call reply s tray c s' tray c'
    hand_performed n a is e did =
        subst (λ x. Performs picks layout x reply s tray c s' tray c') (sym is)
        (plainly (hand n) (hand_clamped layout few s answer s' n (subst (λ x. Does layout s (hand x) answer s') e did)))

    pub post_performed : (n m word a b : ℕ) → call ≡ Post n m word → a ≡ min n 255 → b ≡ min m 255 → Does layout s (post a b word) answer s' → Performs picks layout call reply s tray c s' tray c'
    post_performed n m word a b is e f did =
        subst (λ x. Performs picks layout x reply s tray c s' tray c') (sym is)
        (plainly (post n m word) (post_clamped layout few s answer s' n m word (subst₂ (λ x y. Does layout s (post x y word) answer s') e f did)))
