-- What a recovering owner's broadcast tells, and whom: everyone it reaches is in its recovery, has
-- no entry for it yet, and is told by a neighbour that can pass packets on to it.
use Rattle.std.proofs.Common.{◌≡◌, ℕ, suc, ◌<◌, ◌≤◌, Bool, true, false, cond, ◌⊎◌, sym, refl, ap, ◌∙◌, subst, inl, inr, arith}
use Rattle.std.proofs.lemmas.Bool.{cases_lt, cases_Bool, both_ways}
use Rattle.wiring.specs.Layout.{Layout, Sound}
use Rattle.rules.specs.declared.Mark.{Mark}
use Rattle.rules.specs.declared.Mark.TheVariants.{Unmarked, Up, Down}
use Rattle.rules.specs.declared.Mode.TheVariants.{New, Recovering}
use Rattle.rules.specs.Ports.{Ports, has}
use Rattle.rules.specs.State.{State, Entry, nothing, entry, mark_of, entry_of}
use Rattle.rules.specs.Flood.{Cell, wrote, cell_of, is_up, is_down, is_marked}
use Rattle.rules.specs.Slot.{is_nothing, broadcast}
use Rattle.rules.specs.Promise.{Way, stay}
use Rattle.rules.proofs.Invariant.{mode_at, hand_at, live_at, mark_at, entry_at, NamesRoot, Passed, Cable, Shaped, Cabled, Ordered, Routed}
use Rattle.rules.proofs.Flood.{final, OwnerSent, PassedOn, wrote_heard, wrote_port, wrote_count, wrote_from, wrote_turn}
use Rattle.rules.proofs.Everyone.{Enclosed, wrote_inside, wrote_marked, Connected, everyone}
use Rattle.rules.proofs.Distance.{way_snoc}
use Rattle.rules.proofs.SlotReads.{cells_of, node_past}
use Rattle.rules.proofs.SlotModed.{Loose, owner_unpassed}
use Rattle.rules.proofs.SlotRouted.{ToldBy, Told}
use Rattle.rules.proofs.Walks.{way_recovers}

-- Marks

pub opposite_marked : (a b : Mark) → is_up a ≡ is_down b → is_down a ≡ is_up b → is_marked a ≡ true → is_marked b ≡ true
opposite_marked Unmarked b up down marked = absurd (both_ways false refl marked)
opposite_marked Up Unmarked up down marked = absurd (both_ways false refl (sym up))
opposite_marked Up Up up down marked = refl
opposite_marked Up Down up down marked = refl
opposite_marked Down Unmarked up down marked = absurd (both_ways false refl (sym down))
opposite_marked Down Up up down marked = refl
opposite_marked Down Down up down marked = refl

-- Who ignores the flag of the owner: whoever has an entry for it.
abbrev pub ignores : State → ℕ → Bool
ignores s n = cond (is_nothing (entry_of s.nodes n s.owner)) false true

-- What the broadcast leaves at each node.
abbrev last_cell : Layout → State → ℕ → Cell
last_cell layout s n = final layout (mark_of s.nodes) s.owner (ignores s) n

heeds_empty : (e : Entry) → cond (is_nothing e) false true ≡ false → e ≡ nothing
heeds_empty nothing h = refl
heeds_empty (entry ports count) h = absurd (both_ways true h refl)

empty_heeds : (e : Entry) → e ≡ nothing → cond (is_nothing e) false true ≡ false
empty_heeds e h = ap (λ x. cond (is_nothing x) false true) h

-- A recovering node is a node of the wall.
pub recovering_inside : (layout : Layout) (s : State) → Shaped layout s → (n root left : ℕ) → mode_at s n ≡ Recovering root left → n < layout.count
recovering_inside layout s shaped n root left e = go (cases_lt n layout.count)
  where
    go : (n < layout.count) ⊎ (layout.count ≤ n) → n < layout.count
    go (inl below) = below
    go (inr past) =
        let new : mode_at s n ≡ New = ap (λ x. x.mode) (node_past s.nodes n (omega (arith, shaped.nodes_long))) in
        absurd (let z : ◌≡◌ {A = ℕ} 0 1 = cc in omega arith)

module _ (layout : Layout) (sound : Sound layout) (s : State) (shaped : Shaped layout s) (loose : Loose layout s) (routed : Routed layout s)
    (root left : ℕ) (speaks : mode_at s s.owner ≡ Recovering root left) where
  -- Nobody in a recovery has an entry for the owner yet.
  pub none_yet : (n r l : ℕ) → mode_at s n ≡ Recovering r l → entry_at s n s.owner ≡ nothing
  none_yet n r l e = go (entry_at s n s.owner) refl
    where
      go : (x : Entry) → entry_at s n s.owner ≡ x → entry_at s n s.owner ≡ nothing
      go nothing is = is
      go (entry ports count) is =
          absurd (owner_unpassed layout.count r l s.owner (loose.root_below n r l e) (loose.left_some n r l e) (loose.left_few n r l e) (loose.left_owner n r l e)
          (subst (λ z. Passed layout.count z s.owner) e (routed.entry_passed n s.owner ports count is)))

  -- No marked cable leaves the recovery.
  enclosed : Enclosed layout (mark_of s.nodes) s.owner (λ n. mode_at s n ≡ Recovering root left)
  enclosed = record {
    owner_inside = speaks;
    closed = λ n p m q mode marked cable. loose.stays_inside n p m q root left cable marked mode;
    both_marked = λ n p m q mode marked cable.
        opposite_marked (mark_at s n p) (mark_at s m q)
        (loose.opposite_up n p m q root left cable marked mode) (loose.opposite_down n p m q root left cable marked mode) marked;
  }

  told_recovers : (n : ℕ) (ports : Ports) (c : ℕ) → last_cell layout s n ≡ wrote ports c → mode_at s n ≡ Recovering root left
  told_recovers n ports c e =
      wrote_inside layout sound (mark_of s.nodes) s.owner shaped.owner_below (ignores s) (λ m. mode_at s m ≡ Recovering root left) enclosed n ports c e

  told_port_marked : (n : ℕ) (ports : Ports) (c p : ℕ) → last_cell layout s n ≡ wrote ports c → has ports p ≡ true → is_marked (mark_at s n p) ≡ true
  told_port_marked n ports c p e h =
      wrote_marked layout sound (mark_of s.nodes) s.owner shaped.owner_below (ignores s) (λ m. mode_at s m ≡ Recovering root left) enclosed n ports c p e h

  told_by_far : (m q c : ℕ) →
      OwnerSent (mark_of s.nodes) s.owner m q c ⊎ PassedOn layout (mark_of s.nodes) s.owner (ignores s) m q c → ToldBy s (last_cell layout s) m q c
  told_by_far m q c (inl sent) = inl (sent.is_owner, sent.first_cycle)
  told_by_far m q c (inr on) =
      let turns = wrote_turn layout sound (mark_of s.nodes) s.owner shaped.owner_below (ignores s) m q c on
      (λ p h. told_port_marked m on.ports on.earlier p on.wrote_earlier h) in
      inr (on.ports, on.earlier, turns.0, on.wrote_earlier, on.one_later, turns.1, turns.2)

  told_by_cable : (n : ℕ) (ports : Ports) (c p m q : ℕ) → last_cell layout s n ≡ wrote ports c → has ports p ≡ true → Cable layout n p m q → ToldBy s (last_cell layout s) m q c
  told_by_cable n ports c p m q e h cable =
      let came = wrote_from layout sound (mark_of s.nodes) s.owner shaped.owner_below (ignores s) n ports c p e h in
      let same : ◌≡◌ {A = ℕ × ℕ} (came.node, came.port) (m, q) = cc came.cable in
      subst (λ (end : ℕ × ℕ). ToldBy s (last_cell layout s) end.0 end.1 c) same (told_by_far came.node came.port c came.sender)

  module _ (cabled : Cabled layout s) (ordered : Ordered layout s) (start r l k : ℕ) (mode : mode_at s start ≡ Recovering r l) (way : Way layout s start s.owner k)
      (down : (m j : ℕ) → Way layout s start m j → hand_at s m ≡ false) where
    -- Whoever is joined to the start.
    abbrev In : ℕ → Type 0
    In m = (j : ℕ) × Way layout s start m j

    in_recovery : (m : ℕ) → In m → mode_at s m ≡ Recovering r l
    in_recovery m (j, w) = way_recovers r l (λ a p b q cable on e. loose.recovers_both a p b q r l cable on e) w mode

    in_known : (m : ℕ) → In m → mode_at s m ≡ New → ⊥
    in_known m inside e = let now = in_recovery m inside in let z : ◌≡◌ {A = ℕ} 0 1 = cc in omega arith

    in_hand : (m : ℕ) → In m → hand_at s m ≡ false
    in_hand m (j, w) = down m j w

    -- A marked cable is live where no hand is up.
    in_live : (m p : ℕ) → In m → is_marked (mark_at s m p) ≡ true → live_at s m p ≡ true
    in_live m p inside marked = go (cases_Bool (live_at s m p))
      where
        go : (live_at s m p ≡ true) ⊎ (live_at s m p ≡ false) → live_at s m p ≡ true
        go (inl on) = on
        go (inr off) = absurd (both_ways (hand_at s m) (in_hand m inside) (cabled.cut_hand m p marked off))

    in_root : (m : ℕ) → In m → ordered.depth m ≡ 0 → r ≡ m
    in_root m inside flat =
        subst (λ z. NamesRoot z m) (in_recovery m inside)
        (ordered.depth_root m (recovering_inside layout s shaped m r l (in_recovery m inside)) (in_known m inside) flat)

    connected : Connected layout (mark_of s.nodes) s.owner (ignores s) In ordered.depth
    connected = record {
      owner_inside = (k, way);
      closed = λ n p m q inside marked cable. (suc inside.0, way_snoc inside.1 (in_live n p inside marked) cable);
      opposite_up = λ n p m q inside marked cable. loose.opposite_up n p m q r l cable marked (in_recovery n inside);
      opposite_down = λ n p m q inside marked cable. loose.opposite_down n p m q r l cable marked (in_recovery n inside);
      depth_near = λ n p m q inside marked cable. ordered.depth_near n p m q cable (in_live n p inside marked) marked;
      parent = λ n inside deep.
          let (p, m, q, cable, live, up, one_less) =
          ordered.parent n (recovering_inside layout s shaped n r l (in_recovery n inside)) (in_known n inside) deep (in_hand n inside) in
          (p, m, q, cable, up, one_less);
      depth_zero = λ n m n_in m_in n_flat m_flat. sym (in_root n n_in n_flat) ∙ in_root m m_in m_flat;
      all_hear = λ n inside other. empty_heeds (entry_at s n s.owner) (none_yet n r l (in_recovery n inside));
    }

    all_told : (start ≡ s.owner → ⊥) → (ports : Ports) × (c : ℕ) × (last_cell layout s start ≡ wrote ports c)
    all_told other = everyone layout sound (mark_of s.nodes) s.owner shaped.owner_below (ignores s) In ordered.depth connected start (0, stay) other

  -- What the broadcast of a recovering owner tells.
  pub telling : Cabled layout s → Ordered layout s → Told layout s (cell_of (cells_of layout s))
  unfolding cells_of broadcast
  telling cabled ordered = record {
    told_other = λ n ports c e. (wrote_heard layout sound (mark_of s.nodes) s.owner shaped.owner_below (ignores s) n ports c e).1;
    told_empty = λ n ports c e.
        heeds_empty (entry_at s n s.owner) (wrote_heard layout sound (mark_of s.nodes) s.owner shaped.owner_below (ignores s) n ports c e).2;
    told_count = λ n ports c e. wrote_count layout sound (mark_of s.nodes) s.owner shaped.owner_below (ignores s) n ports c e;
    told_port = λ n ports c e. wrote_port layout sound (mark_of s.nodes) s.owner shaped.owner_below (ignores s) n ports c e;
    told_mode = λ n ports c e. (root, left, told_recovers n ports c e);
    told_marked = told_port_marked;
    told_by = told_by_cable;
    told_inside = λ n ports c e. (wrote_heard layout sound (mark_of s.nodes) s.owner shaped.owner_below (ignores s) n ports c e).0;
    told_all = λ n r l k mode way other down. all_told cabled ordered n r l k mode way down other;
  }
