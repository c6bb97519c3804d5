-- Whether a wall is calm, from what is read node by node.
use Rattle.std.proofs.Common.{◌≡◌, ℕ, ◌<◌, Bool, true, false, List, length, get_or, Decides, MatchBool, refl, ◌∙◌, subst, arith}
use Rattle.std.specs.List.{range_with_len, AllWithin, HoldsAt}
use Rattle.std.proofs.lemmas.List.FromFn.{length-range_with_len, get_or-range_with_len}
use Rattle.wiring.specs.Layout.{Layout}
use Rattle.rules.specs.State.{node_of}
use Rattle.rules.specs.Promise.{Calm}
use Rattle.board.specs.View.{nodes_at}
use Rattle.wall.specs.declared.inner.Core.{Core}
use Rattle.wall.specs.Answers.{Rests}
use Rattle.wall.specs.View.{state_of}

module _ (layout : Layout) (core : Core) where
  -- Of a node of the wall: that it rests, and that it does not.
  abbrev pub Yes : ℕ → Type 0
  Yes n = n < layout.count → Rests (node_of (nodes_at layout.count core.board.nodes) n)

  abbrev pub No : ℕ → Type 0
  No n = n < layout.count → Rests (node_of (nodes_at layout.count core.board.nodes) n) → ⊥

  abbrev all : List ℕ
  all = range_with_len 0 layout.count

  at : (k : ℕ) → k < layout.count → get_or all k 0 ≡ k
  at k h = get_or-range_with_len 0 layout.count k 0 h ∙ omega arith

  pub calm_by : (r : Bool) → MatchBool r (AllWithin Yes all 0 (length all)) ((k : ℕ) × (k < length all) × HoldsAt No all k) → Decides r (Calm layout (state_of layout core))
  unfolding state_of
  calm_by true each =
      let rest : (k : ℕ) → Yes k = λ k h. subst Yes (at k h) (each k 0 (omega arith) (omega (arith, length-range_with_len 0 layout.count))) h in
      ((λ e. record { hands_down = λ n h. (rest n h).0; none_recovers = λ n h. (rest n h).1 }), λ calm. refl)
  calm_by false some =
      let k : ℕ = some.0 in
      let below : k < layout.count = omega (arith, some.1, length-range_with_len 0 layout.count) in
      ((λ e. cc), λ calm. absurd (subst No (at k below) (some.2 0) below (calm.hands_down k below, calm.none_recovers k below)))
