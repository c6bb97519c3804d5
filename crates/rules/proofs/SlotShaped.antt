-- The lists keep their lengths over a slot that ticks, and cables stay as they are.
use Rattle.std.proofs.Common.{◌≡◌, ℕ, ◌+◌, length, sym, ap, ◌∙◌, mod-lt}
use Rattle.wiring.specs.Layout.{Layout, Sound}
use Rattle.rules.specs.State.{State}
use Rattle.rules.specs.Flood.{Cell, is_marked}
use Rattle.rules.proofs.Invariant.{hand_at, live_at, mark_at, Shaped, Cabled}
use Rattle.rules.proofs.SlotReads.{Ticked, live_kept, mark_kept}

module _ (layout : Layout) (sound : Sound layout) (s after : State) (cell : ℕ → Cell) (ticked : Ticked layout s after cell) where
  pub shaped_ticked : Shaped layout s → Shaped layout after
  shaped_ticked shaped = record {
    nodes_long = ticked.nodes_long;
    marks_long = λ n below. ap length (ticked.marks_list n) ∙ shaped.marks_long n below;
    row_long = λ n below. ticked.row_length n ∙ shaped.row_long n below;
    owner_below = rw ticked.owner_is (mod-lt (s.owner + 1) sound.some_nodes);
  }

-- Cables depend on the live ports, the marks and the hands alone.
pub cabled_same : (layout : Layout) (s after : State) →
    ((n p : ℕ) → live_at after n p ≡ live_at s n p) →
    ((n p : ℕ) → mark_at after n p ≡ mark_at s n p) →
    ((n : ℕ) → hand_at after n ≡ hand_at s n) →
    Cabled layout s → Cabled layout after
cabled_same layout s after live mark hand cabled = record {
  live_both = λ n p on.
      let both = cabled.live_both n p (sym (live n p) ∙ on) in
      (both.0, both.1, both.2, live both.0 both.1 ∙ both.3);
  marked_cable = λ n p on. cabled.marked_cable n p (sym (ap is_marked (mark n p)) ∙ on);
  marked_both = λ n p m q cable on.
      ap is_marked (mark n p) ∙ cabled.marked_both n p m q cable (sym (live n p) ∙ on) ∙ sym (ap is_marked (mark m q));
  unmarked_hand = λ n p on off. hand n ∙ cabled.unmarked_hand n p (sym (live n p) ∙ on) (sym (ap is_marked (mark n p)) ∙ off);
  cut_hand = λ n p on off. hand n ∙ cabled.cut_hand n p (sym (ap is_marked (mark n p)) ∙ on) (sym (live n p) ∙ off);
}

module _ (layout : Layout) (sound : Sound layout) (s after : State) (cell : ℕ → Cell) (ticked : Ticked layout s after cell) where
  pub cabled_ticked : Cabled layout s → Cabled layout after
  cabled_ticked cabled =
      cabled_same layout s after (live_kept layout s after cell ticked) (mark_kept layout s after cell ticked) ticked.hand_is cabled
