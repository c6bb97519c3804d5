-- Routing tables over a slot: each node that the owner's broadcast told has an entry for the
-- owner, and every other entry stays.
use Rattle.std.proofs.Common.{◌≡◌, ℕ, ◌+◌, ◌<◌, ◌≤◌, true, false, ◌⊎◌, get_or, sym, refl, ap, ◌∙◌, subst, inl, inr, arith}
use Rattle.std.proofs.lemmas.Bool.{cases_lt, cases_eq, cases_Bool, both_ways}
use Rattle.wiring.specs.Layout.{Layout, Sound}
use Rattle.rules.specs.declared.Mode.{Mode}
use Rattle.rules.specs.declared.Mode.TheVariants.{New, Recovering, Serving}
use Rattle.rules.specs.Ports.{Ports, has}
use Rattle.rules.specs.State.{State, Entry, nothing, entry}
use Rattle.rules.specs.Flood.{Cell, waiting, deaf, wrote, is_marked}
use Rattle.rules.specs.Step.{turn}
use Rattle.rules.specs.Slot.{tick_mode}
use Rattle.rules.specs.Promise.{Way}
use Rattle.rules.proofs.Invariant.{mode_at, hand_at, live_at, mark_at, entry_at, Passed, Cable, Shaped, Cabled, Leads, Routed}
use Rattle.rules.proofs.SlotReads.{Ticked, entry_from, live_kept, mark_kept, node_past}
use Rattle.rules.proofs.SlotModed.{Loose, passed_ticks, passed_cases, owner_passed}
use Rattle.rules.proofs.Walks.{way_same}

-- Who told a node of the owner by port q of node m, c cables from the owner: the owner itself, or
-- a node that was told one cable nearer and has a permitted turn on.
abbrev pub ToldBy : State → (ℕ → Cell) → ℕ → ℕ → ℕ → Type 0
ToldBy s cell m q c =
    ((m ≡ s.owner) × (c ≡ 1)) ⊎
    ((ports : Ports) × (fewer : ℕ) × (p : ℕ) × (cell m ≡ wrote ports fewer) × (c ≡ fewer + 1)
    × (has ports p ≡ true) × (turn (mark_at s m q) (mark_at s m p) ≡ true))

-- What the cells of a slot say of a state, as far as the slot's end needs it.
pub record Told (layout : Layout) (s : State) (cell : ℕ → Cell) : Type 0 where
  pub told_other : (n : ℕ) (ports : Ports) (c : ℕ) → cell n ≡ wrote ports c → n ≡ s.owner → ⊥
  pub told_empty : (n : ℕ) (ports : Ports) (c : ℕ) → cell n ≡ wrote ports c → entry_at s n s.owner ≡ nothing
  pub told_count : (n : ℕ) (ports : Ports) (c : ℕ) → cell n ≡ wrote ports c → (1 ≤ c) × (c < layout.count)
  pub told_port : (n : ℕ) (ports : Ports) (c : ℕ) → cell n ≡ wrote ports c → (p : ℕ) × (has ports p ≡ true)
  pub told_mode : (n : ℕ) (ports : Ports) (c : ℕ) → cell n ≡ wrote ports c → (root : ℕ) × (left : ℕ) × (mode_at s n ≡ Recovering root left)
  pub told_marked : (n : ℕ) (ports : Ports) (c p : ℕ) → cell n ≡ wrote ports c → has ports p ≡ true → is_marked (mark_at s n p) ≡ true
  pub told_by : (n : ℕ) (ports : Ports) (c p m q : ℕ) → cell n ≡ wrote ports c → has ports p ≡ true → Cable layout n p m q → ToldBy s cell m q c
  pub told_inside : (n : ℕ) (ports : Ports) (c : ℕ) → cell n ≡ wrote ports c → n < layout.count
  -- everyone in the owner's recovery is told, where no hand is up
  pub told_all : (n root left k : ℕ) → mode_at s n ≡ Recovering root left → Way layout s n s.owner k → (n ≡ s.owner → ⊥) →
      ((m j : ℕ) → Way layout s n m j → hand_at s m ≡ false) → (ports : Ports) × (c : ℕ) × (cell n ≡ wrote ports c)

nothing_here : (e : Entry) (ports : Ports) (count : ℕ) → e ≡ nothing → e ≡ entry ports count → ⊥
nothing_here e ports count a b = let z : ◌≡◌ {A = ℕ} 0 1 = cc in omega arith

module _ (layout : Layout) (s after : State) (cell : ℕ → Cell) (ticked : Ticked layout s after cell) where
  -- The entry for the owner, by what the cell brought.
  owner_entry_new : (n : ℕ) (ports : Ports) (count : ℕ) → entry_at after n s.owner ≡ entry ports count →
      (entry_at s n s.owner ≡ entry ports count) ⊎ (cell n ≡ wrote ports count)
  owner_entry_new n ports count e = go (cases_lt n layout.count)
    where
      by_cell : (c : Cell) → cell n ≡ c → entry_from c (entry_at s n s.owner) ≡ entry ports count →
          (entry_at s n s.owner ≡ entry ports count) ⊎ (cell n ≡ wrote ports count)
      by_cell waiting is got = inl got
      by_cell deaf is got = inl got
      by_cell (wrote ports' count') is got = inr (let a : ports' ≡ ports = cc in let b : count' ≡ count = cc in is ∙ (λ i. wrote (a i) (b i)))

      go : (n < layout.count) ⊎ (layout.count ≤ n) → (entry_at s n s.owner ≡ entry ports count) ⊎ (cell n ≡ wrote ports count)
      go (inl below) = by_cell (cell n) refl (sym (ticked.entry_owner n below) ∙ e)
      go (inr past) = absurd (nothing_here (entry_at after n s.owner) ports count (ticked.entry_past n s.owner past) e)

  -- An entry after the slot was there before, or is for the owner and was told.
  pub entry_new : (n x : ℕ) (ports : Ports) (count : ℕ) → entry_at after n x ≡ entry ports count →
      (entry_at s n x ≡ entry ports count) ⊎ ((x ≡ s.owner) × (cell n ≡ wrote ports count))
  entry_new n x ports count e = go (cases_eq x s.owner)
    where
      with_owner : x ≡ s.owner → (entry_at s n s.owner ≡ entry ports count) ⊎ (cell n ≡ wrote ports count) →
          (entry_at s n x ≡ entry ports count) ⊎ ((x ≡ s.owner) × (cell n ≡ wrote ports count))
      with_owner same (inl old) = inl (ap (entry_at s n) same ∙ old)
      with_owner same (inr told) = inr (same, told)

      go : (x ≡ s.owner) ⊎ (x ≡ s.owner → ⊥) → (entry_at s n x ≡ entry ports count) ⊎ ((x ≡ s.owner) × (cell n ≡ wrote ports count))
      go (inl same) = with_owner same (owner_entry_new n ports count (sym (ap (entry_at after n) same) ∙ e))
      go (inr other) = inl (sym (ticked.entry_other n x other) ∙ e)

  module _ (shaped : Shaped layout s) (told : Told layout s cell) where
    -- What was told stands in the row.
    pub entry_told : (n : ℕ) (ports : Ports) (count : ℕ) → cell n ≡ wrote ports count → entry_at after n s.owner ≡ entry ports count
    entry_told n ports count e =
        ticked.entry_owner n (told.told_inside n ports count e) ∙ ap (λ c. entry_from c (entry_at s n s.owner)) e

    entry_inside : (n x : ℕ) (ports : Ports) (count : ℕ) → entry_at s n x ≡ entry ports count → n < layout.count
    entry_inside n x ports count e = go (cases_lt n layout.count)
      where
        go : (n < layout.count) ⊎ (layout.count ≤ n) → n < layout.count
        go (inl below) = below
        go (inr past) =
            absurd (nothing_here (entry_at s n x) ports count (ap (λ y. get_or y.row x nothing) (node_past s.nodes n (omega (arith, shaped.nodes_long)))) e)

    -- No entry is lost.
    pub entry_kept : (n x : ℕ) (ports : Ports) (count : ℕ) → entry_at s n x ≡ entry ports count → entry_at after n x ≡ entry ports count
    entry_kept n x ports count e = go (cases_eq x s.owner)
      where
        by_cell : x ≡ s.owner → (c : Cell) → cell n ≡ c → entry_from c (entry_at s n s.owner) ≡ entry ports count
        by_cell same waiting is = sym (ap (entry_at s n) same) ∙ e
        by_cell same deaf is = sym (ap (entry_at s n) same) ∙ e
        by_cell same (wrote ports' count') is =
            absurd (nothing_here (entry_at s n x) ports count (ap (entry_at s n) same ∙ told.told_empty n ports' count' is) e)

        go : (x ≡ s.owner) ⊎ (x ≡ s.owner → ⊥) → entry_at after n x ≡ entry ports count
        go (inl same) = ap (entry_at after n) same ∙ ticked.entry_owner n (entry_inside n x ports count e) ∙ by_cell same (cell n) refl
        go (inr other) = ticked.entry_other n x other ∙ e

module _ (layout : Layout) (sound : Sound layout) (s after : State) (cell : ℕ → Cell) (ticked : Ticked layout s after cell)
    (shaped : Shaped layout s) (cabled : Cabled layout s) (loose : Loose layout s) (told : Told layout s cell) (routed : Routed layout s) where
  mark_was : (n p : ℕ) → mark_at after n p ≡ mark_at s n p
  mark_was n p = mark_kept layout s after cell ticked n p

  live_was : (n p : ℕ) → live_at after n p ≡ live_at s n p
  live_was n p = live_kept layout s after cell ticked n p

  keeps : (n x : ℕ) (ports : Ports) (count : ℕ) → entry_at s n x ≡ entry ports count → entry_at after n x ≡ entry ports count
  keeps = entry_kept layout s after cell ticked shaped told

  own_nothing_after : (n : ℕ) → entry_at after n n ≡ nothing
  own_nothing_after n = go (entry_at after n n) refl
    where
      new : (ports : Ports) (count : ℕ) → (entry_at s n n ≡ entry ports count) ⊎ ((n ≡ s.owner) × (cell n ≡ wrote ports count)) → ⊥
      new ports count (inl old) = nothing_here (entry_at s n n) ports count (routed.own_nothing n) old
      new ports count (inr got) = told.told_other n ports count got.1 got.0

      go : (e : Entry) → entry_at after n n ≡ e → entry_at after n n ≡ nothing
      go nothing is = is
      go (entry ports count) is = absurd (new ports count (entry_new layout s after cell ticked n n ports count is))

  -- The owner is passed by whoever is told of it.
  told_passed : (n : ℕ) (ports : Ports) (count : ℕ) → cell n ≡ wrote ports count → Passed layout.count (tick_mode (mode_at s n)) s.owner
  told_passed n ports count e =
      let mode = told.told_mode n ports count e in
      subst (λ z. Passed layout.count (tick_mode z) s.owner) (sym mode.2)
      (owner_passed layout.count sound.some_nodes mode.0 mode.1 s.owner
      (loose.left_some n mode.0 mode.1 mode.2) (loose.left_few n mode.0 mode.1 mode.2) (loose.left_owner n mode.0 mode.1 mode.2))

  entry_passed_after : (n x : ℕ) (ports : Ports) (count : ℕ) → entry_at after n x ≡ entry ports count → Passed layout.count (mode_at after n) x
  entry_passed_after n x ports count e =
      subst (λ z. Passed layout.count z x) (sym (ticked.mode_is n)) (go (entry_new layout s after cell ticked n x ports count e))
    where
      go : (entry_at s n x ≡ entry ports count) ⊎ ((x ≡ s.owner) × (cell n ≡ wrote ports count)) → Passed layout.count (tick_mode (mode_at s n)) x
      go (inl old) = passed_ticks layout.count sound.some_nodes (mode_at s n) x (routed.entry_passed n x ports count old)
      go (inr got) = subst (λ y. Passed layout.count (tick_mode (mode_at s n)) y) (sym got.0) (told_passed n ports count got.1)

  entry_count_after : (n x : ℕ) (ports : Ports) (count : ℕ) → entry_at after n x ≡ entry ports count → (1 ≤ count) × (count < layout.count)
  entry_count_after n x ports count e = go (entry_new layout s after cell ticked n x ports count e)
    where
      go : (entry_at s n x ≡ entry ports count) ⊎ ((x ≡ s.owner) × (cell n ≡ wrote ports count)) → (1 ≤ count) × (count < layout.count)
      go (inl old) = routed.entry_count n x ports count old
      go (inr got) = told.told_count n ports count got.1

  entry_port_after : (n x : ℕ) (ports : Ports) (count : ℕ) → entry_at after n x ≡ entry ports count → (p : ℕ) × (has ports p ≡ true)
  entry_port_after n x ports count e = go (entry_new layout s after cell ticked n x ports count e)
    where
      go : (entry_at s n x ≡ entry ports count) ⊎ ((x ≡ s.owner) × (cell n ≡ wrote ports count)) → (p : ℕ) × (has ports p ≡ true)
      go (inl old) = routed.entry_port n x ports count old
      go (inr got) = told.told_port n ports count got.1

  entry_live_after : (n x : ℕ) (ports : Ports) (count p : ℕ) → entry_at after n x ≡ entry ports count → has ports p ≡ true → hand_at after n ≡ false →
      (live_at after n p ≡ true) × (is_marked (mark_at after n p) ≡ true)
  entry_live_after n x ports count p e there down =
      let before = go (entry_new layout s after cell ticked n x ports count e) in
      (live_was n p ∙ before.0, ap is_marked (mark_was n p) ∙ before.1)
    where
      hand_before : hand_at s n ≡ false
      hand_before = sym (ticked.hand_is n) ∙ down

      still_live : is_marked (mark_at s n p) ≡ true → (live_at s n p ≡ true) ⊎ (live_at s n p ≡ false) → live_at s n p ≡ true
      still_live marked (inl on) = on
      still_live marked (inr off) = absurd (both_ways (hand_at s n) hand_before (cabled.cut_hand n p marked off))

      go : (entry_at s n x ≡ entry ports count) ⊎ ((x ≡ s.owner) × (cell n ≡ wrote ports count)) → (live_at s n p ≡ true) × (is_marked (mark_at s n p) ≡ true)
      go (inl old) = routed.entry_live n x ports count p old there hand_before
      go (inr got) =
          let marked = told.told_marked n ports count p got.1 there in
          (still_live marked (cases_Bool (live_at s n p)), marked)

  turn_still : (m q p : ℕ) → turn (mark_at s m q) (mark_at s m p) ≡ true → turn (mark_at after m q) (mark_at after m p) ≡ true
  turn_still m q p ok = (λ i. turn (mark_was m q i) (mark_was m p i)) ∙ ok

  leads_still : (m q x count : ℕ) → Leads s m q x count → Leads after m q x count
  leads_still m q x count (inl there) = inl there
  leads_still m q x count (inr (ports, fewer, p, at_m, one_more, has_p, ok)) =
      inr (ports, fewer, p, keeps m x ports fewer at_m, one_more, has_p, turn_still m q p ok)

  told_leads : (m q count : ℕ) → ToldBy s cell m q count → Leads after m q s.owner count
  told_leads m q count (inl there) = inl there
  told_leads m q count (inr (ports, fewer, p, at_m, one_more, has_p, ok)) =
      inr (ports, fewer, p, entry_told layout s after cell ticked shaped told m ports fewer at_m, one_more, has_p, turn_still m q p ok)

  entry_leads_after : (n x : ℕ) (ports : Ports) (count p m q : ℕ) → entry_at after n x ≡ entry ports count → has ports p ≡ true →
      Cable layout n p m q → live_at after n p ≡ true → is_marked (mark_at after n p) ≡ true → Leads after m q x count
  entry_leads_after n x ports count p m q e there cable on marked = go (entry_new layout s after cell ticked n x ports count e)
    where
      go : (entry_at s n x ≡ entry ports count) ⊎ ((x ≡ s.owner) × (cell n ≡ wrote ports count)) → Leads after m q x count
      go (inl old) =
          leads_still m q x count (routed.entry_leads n x ports count p m q old there cable (sym (live_was n p) ∙ on) (sym (ap is_marked (mark_was n p)) ∙ marked))
      go (inr got) = subst (λ y. Leads after m q y count) (sym got.0) (told_leads m q count (told.told_by n ports count p m q got.1 there cable))

  -- Whoever was passed before, or is the owner of the slot.
  passed_before : (n x : ℕ) (mode : Mode) → mode_at s n ≡ mode → Passed layout.count (tick_mode mode) x →
      Passed layout.count mode x ⊎ ((root : ℕ) × (left : ℕ) × (mode_at s n ≡ Recovering root left) × (x ≡ s.owner))
  unfolding tick_mode
  passed_before n x New is h = inl h
  passed_before n x (Recovering root left) is h =
      go (passed_cases layout.count root left s.owner x (loose.root_below n root left is) (loose.left_some n root left is) (loose.left_few n root left is) (loose.left_owner n root left is) h)
    where
      go : Passed layout.count (Recovering root left) x ⊎ (x ≡ s.owner) →
          Passed layout.count (Recovering root left) x ⊎ ((r : ℕ) × (l : ℕ) × (mode_at s n ≡ Recovering r l) × (x ≡ s.owner))
      go (inl old) = inl old
      go (inr same) = inr (root, left, is, same)
  passed_before n x (Serving root) is h = inl h

  entry_there_after : (n x k : ℕ) → Way layout after n x k → (n ≡ x → ⊥) → Passed layout.count (mode_at after n) x →
      ((m j : ℕ) → Way layout after n m j → hand_at after m ≡ false) →
      (ports : Ports) × (count : ℕ) × (entry_at after n x ≡ entry ports count)
  entry_there_after n x k way other passed down =
      go (passed_before n x (mode_at s n) refl (subst (λ z. Passed layout.count z x) (ticked.mode_is n) passed))
    where
      back : {a b j : ℕ} → Way layout after a b j → Way layout s a b j
      back w = way_same (λ a p on. sym (live_was a p) ∙ on) w

      forth : {a b j : ℕ} → Way layout s a b j → Way layout after a b j
      forth w = way_same (λ a p on. live_was a p ∙ on) w

      down_before : (m j : ℕ) → Way layout s n m j → hand_at s m ≡ false
      down_before m j w = sym (ticked.hand_is m) ∙ down m j (forth w)

      go : Passed layout.count (mode_at s n) x ⊎ ((root : ℕ) × (left : ℕ) × (mode_at s n ≡ Recovering root left) × (x ≡ s.owner)) →
          (ports : Ports) × (count : ℕ) × (entry_at after n x ≡ entry ports count)
      go (inl before) =
          let old = routed.entry_there n x k (back way) other before down_before in
          (old.0, old.1, keeps n x old.0 old.1 old.2)
      go (inr (root, left, is, same)) =
          let got = told.told_all n root left k is (subst (λ y. Way layout s n y k) same (back way)) (λ e. other (e ∙ sym same)) down_before in
          (got.0, got.1, ap (entry_at after n) same ∙ entry_told layout s after cell ticked shaped told n got.0 got.1 got.2)

  pub routed_ticked : Routed layout after
  routed_ticked = record {
    own_nothing = own_nothing_after;
    entry_passed = entry_passed_after;
    entry_count = entry_count_after;
    entry_port = entry_port_after;
    entry_live = entry_live_after;
    entry_leads = entry_leads_after;
    entry_there = entry_there_after;
  }
