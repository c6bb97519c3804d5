-- Depth and order stay over a slot that ticks.
use Rattle.std.proofs.Common.{◌≡◌, ℕ, true, sym, ap, ◌∙◌, subst}
use Rattle.wiring.specs.Layout.{Layout, Sound}
use Rattle.rules.specs.declared.Mode.TheVariants.{New}
use Rattle.rules.specs.State.{State}
use Rattle.rules.specs.Flood.{Cell, is_marked}
use Rattle.rules.proofs.Invariant.{mode_at, live_at, mark_at, NamesRoot, Ordered}
use Rattle.rules.proofs.SlotReads.{Ticked, live_kept, mark_kept}
use Rattle.rules.proofs.SlotModed.{new_ticks, tick_names}

module _ (layout : Layout) (sound : Sound layout) (s after : State) (cell : ℕ → Cell) (ticked : Ticked layout s after cell) where
  live_was : (n p : ℕ) → live_at after n p ≡ true → live_at s n p ≡ true
  live_was n p on = sym (live_kept layout s after cell ticked n p) ∙ on

  marked_was : (n p : ℕ) → is_marked (mark_at after n p) ≡ true → is_marked (mark_at s n p) ≡ true
  marked_was n p on = sym (ap is_marked (mark_kept layout s after cell ticked n p)) ∙ on

  known_was : (n : ℕ) → (mode_at after n ≡ New → ⊥) → mode_at s n ≡ New → ⊥
  known_was n known e = known (ticked.mode_is n ∙ new_ticks (mode_at s n) e)

  names_still : (n r : ℕ) → NamesRoot (mode_at s n) r → NamesRoot (mode_at after n) r
  names_still n r h = subst (λ mode. NamesRoot mode r) (sym (ticked.mode_is n)) (tick_names (mode_at s n) r h)

  pub ordered_ticked : Ordered layout s → Ordered layout after
  ordered_ticked ordered = record {
    depth = ordered.depth;
    ord = ordered.ord;
    top = ordered.top;
    ord_below = ordered.ord_below;
    up_lower = λ n p m q cable on up. ordered.up_lower n p m q cable (live_was n p on) (sym (mark_kept layout s after cell ticked n p) ∙ up);
    down_higher = λ n p m q cable on down. ordered.down_higher n p m q cable (live_was n p on) (sym (mark_kept layout s after cell ticked n p) ∙ down);
    depth_near = λ n p m q cable on marked. ordered.depth_near n p m q cable (live_was n p on) (marked_was n p marked);
    depth_ord = λ n p m q cable on marked less. ordered.depth_ord n p m q cable (live_was n p on) (marked_was n p marked) less;
    depth_root = λ n below known none. names_still n n (ordered.depth_root n below (known_was n known) none);
    parent = λ n below known some down.
        let up = ordered.parent n below (known_was n known) some (sym (ticked.hand_is n) ∙ down) in
        (up.0, up.1, up.2, up.3, live_kept layout s after cell ticked n up.0 ∙ up.4, mark_kept layout s after cell ticked n up.0 ∙ up.5, up.6);
  }
