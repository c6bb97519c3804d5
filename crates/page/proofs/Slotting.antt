-- Slots one after another.
use Rattle.std.proofs.Common.{◌≡◌, ℕ, zero, suc, ◌+◌, ◌-◌, ◌*◌, sym, refl, ap, ◌∙◌, subst, subst₂, add-one}
use Rattle.wiring.specs.Layout.{Layout}
use Rattle.rules.specs.State.{State, power_up}
use Rattle.rules.specs.Slot.{slot}
use Rattle.rules.specs.Runs.{Reply, slot_call, Does}
use Rattle.rules.specs.Runs as runs
use Rattle.rules.specs.Walls.{slots, slots_up}
use Rattle.wall.specs.View.{state_of}
use Rattle.wall.specs.declared.inner.Core.{Core}
use Rattle.page.specs.Pages.{settled_state}

pub slot_does : {layout : Layout} {s after : State} {reply : Reply} → Does layout s slot_call reply after → after ≡ (slot layout s).after
slot_does (runs.slots answer e) = e

slots_suc : (layout : Layout) (k : ℕ) (s : State) → slots layout (suc k) s ≡ (slot layout (slots layout k s)).after
unfolding slots
slots_suc layout zero s = refl
slots_suc layout (suc k) s = slots_suc layout k (slot layout s).after

pub no_slots : (layout : Layout) (s : State) → slots layout 0 s ≡ s
unfolding slots
no_slots layout s = refl

pub more_slots : (layout : Layout) (k : ℕ) (start s after : State) {reply : Reply} → s ≡ slots layout k start → Does layout s slot_call reply after → after ≡ slots layout (k + 1) start
more_slots layout k start s after e did =
    slot_does did ∙ ap (λ x. (slot layout x).after) e ∙ sym (slots_suc layout k start) ∙ ap (λ n. slots layout n start) (sym (add-one k))

-- The same, as a wall says it: the wiring of a wall stays.
module _ {X : Type 0} (layout : X → Layout) (wiring : X) where
  pub wall_more :
      (k : ℕ) (w w' : X) (core core' : Core) {reply : Reply} →
      w ≡ wiring →
      w' ≡ w →
      state_of (layout wiring) core ≡ slots_up (layout wiring) k →
      Does (layout w) (state_of (layout w) core) slot_call reply (state_of (layout w') core') →
      state_of (layout wiring) core' ≡ slots_up (layout wiring) (k + 1)
  wall_more k w w' core core' {reply} a b e did =
      more_slots (layout wiring) k (power_up (layout wiring)) (state_of (layout wiring) core) (state_of (layout wiring) core') e
      (subst₂ (λ x y. Does (layout x) (state_of (layout x) core) slot_call reply (state_of (layout y) core')) a (b ∙ a) did)

  pub wall_settled :
      (k : ℕ) (w : X) (core : Core) →
      w ≡ wiring →
      k ≡ 2 * (layout w).count - 1 →
      state_of (layout w) core ≡ slots_up (layout w) k →
      state_of (layout wiring) core ≡ settled_state (layout wiring)
  unfolding settled_state
  wall_settled k w core a h e =
      subst (λ x. state_of (layout x) core ≡ settled_state (layout x)) a (e ∙ ap (slots_up (layout w)) h)
