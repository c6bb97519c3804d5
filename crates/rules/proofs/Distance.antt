-- The distances of a root's broadcast are the least numbers of live cables between the root and
-- each node joined to it. The flag that finds them goes down every live cable, so what is known of
-- any broadcast gives the ways.
use Rattle.std.proofs.Common.{◌≡◌, ℕ, zero, suc, ◌+◌, ◌<◌, ◌≤◌, Bool, true, false, ◌⊎◌, List, Some, None, Option, sym, refl, ap, ◌∙◌, subst, inl, inr, arith}
use Rattle.std.proofs.lemmas.Bool.{both_ways, cases_Bool, cases_eq}
use Rattle.wiring.specs.Layout.{Layout, Sound}
use Rattle.rules.specs.Ports.{Ports, has}
use Rattle.rules.specs.State.{Node, State, live_of}
use Rattle.rules.specs.Flood.{Marks, is_up, is_marked, Cell, waiting, deaf, wrote}
use Rattle.rules.specs.Root.{open_marks, distances, distance_in, distance}
use Rattle.rules.specs.Promise.{Way, stay, cross}
use Rattle.rules.specs.Laws.{Least, Distances}
use Rattle.rules.proofs.Flood.{one_end, final, Came, OwnerSent, PassedOn, Arrived, final_owner, deaf_who, wrote_count, wrote_port, wrote_from, wrote_heard, arrives}

-- Ways

-- A live port has a cable whose far end is live too.
abbrev pub LiveBoth : Layout → List Node → Type 0
LiveBoth layout nodes =
    (n p : ℕ) → live_of nodes n p ≡ true → (m : ℕ) × (q : ℕ) × (layout.far n p ≡ Some (m, q)) × (live_of nodes m q ≡ true)

-- The far end of a live cable is live.
pub far_live : (layout : Layout) (nodes : List Node) → LiveBoth layout nodes → (n p m q : ℕ) → layout.far n p ≡ Some (m, q) →
    live_of nodes n p ≡ true → live_of nodes m q ≡ true
far_live layout nodes both n p m q cable live =
    let found = both n p live in
    let same = one_end (layout.far n p) found.0 found.1 m q found.2 cable in
    let there : live_of nodes found.0 found.1 ≡ true = found.3 in
    subst (λ (end : ℕ × ℕ). live_of nodes end.0 end.1 ≡ true) (λ i. (same.0 i, same.1 i)) there

pub way_append : {layout : Layout} {s : State} {n m l j k : ℕ} → Way layout s n m j → Way layout s m l k → Way layout s n l (j + k)
way_append {layout} {s} {l} {k} (stay {n = a}) rest = let same : k ≡ 0 + k = omega arith in subst (λ (i : ℕ). Way layout s a l i) same rest
way_append {layout} {s} {l} {k} (cross {n = a} {k = i} live cable way) rest =
    let same : suc (i + k) ≡ suc i + k = omega arith in
    subst (λ (h : ℕ). Way layout s a l h) same (cross live cable (way_append way rest))

pub way_snoc : {layout : Layout} {s : State} {n m p l q k : ℕ} → Way layout s n m k → live_of s.nodes m p ≡ true → layout.far m p ≡ Some (l, q) → Way layout s n l (suc k)
way_snoc stay live cable = cross live cable stay
way_snoc (cross first there way) live cable = cross first there (way_snoc way live cable)

pub way_reverse : {layout : Layout} {s : State} {n m k : ℕ} → Sound layout → LiveBoth layout s.nodes → Way layout s n m k → Way layout s m n k
way_reverse sound both stay = stay
way_reverse {layout} {s} sound both (cross {n = a} {p = p} {m = b} {q = q} live cable way) =
    way_snoc (way_reverse sound both way) (far_live layout s.nodes both a p b q cable live) (sound.returns a p b q cable)

-- Distances

-- The flag that finds the distances.
abbrev reach : Layout → List Node → ℕ → ℕ → Cell
reach layout nodes root n = final layout (open_marks nodes) root (λ n. false) n

reach_is : (layout : Layout) (nodes : List Node) (root n : ℕ) → distance (distances layout nodes root) n ≡ distance_in n (reach layout nodes root n)
unfolding distances
reach_is layout nodes root n = refl

open_marked : (nodes : List Node) (n p : ℕ) → live_of nodes n p ≡ true → is_marked (open_marks nodes n p) ≡ true
open_marked nodes n p live = rw live

open_live : (nodes : List Node) (n p : ℕ) → is_marked (open_marks nodes n p) ≡ true → live_of nodes n p ≡ true
open_live nodes n p marked = go (live_of nodes n p) refl
  where
    go : (live : Bool) → live_of nodes n p ≡ live → live_of nodes n p ≡ true
    go true e = e
    go false e = absurd (both_ways false refl (rw e at marked))

open_not_up : (nodes : List Node) (n p : ℕ) → is_up (open_marks nodes n p) ≡ true → ⊥
open_not_up nodes n p up = go (live_of nodes n p) refl
  where
    go : (live : Bool) → live_of nodes n p ≡ live → ⊥
    go true e = both_ways false refl (rw e at up)
    go false e = both_ways false refl (rw e at up)

-- A node's distance, by what its cell is.
data Reached (layout : Layout) (nodes : List Node) (root n d : ℕ) : Type 0 where
  here : n ≡ root → d ≡ 0 → Reached layout nodes root n d
  there : (ports : Ports) → reach layout nodes root n ≡ wrote ports d → Reached layout nodes root n d

some_same : (o : Option ℕ) (a b : ℕ) → o ≡ Some a → o ≡ Some b → a ≡ b
some_same o a b x y = cc

none_some : (o : Option ℕ) (a : ℕ) → o ≡ None → o ≡ Some a → ⊥
none_some o a x y = let z : ◌≡◌ {A = ℕ} 0 1 = cc in omega arith

-- A live cable to a node one nearer to the root.
pub record Nearer (layout : Layout) (s : State) (root n d : ℕ) : Type 0 where
  pub port : ℕ
  pub node : ℕ
  pub far_port : ℕ
  pub nearer : ℕ
  pub live : live_of s.nodes n port ≡ true
  pub cable : layout.far n port ≡ Some (node, far_port)
  pub distance_there : distance (distances layout s.nodes root) node ≡ Some nearer
  pub one_less : d ≡ nearer + 1

module _ (layout : Layout) (sound : Sound layout) (s : State) (both : LiveBoth layout s.nodes) (root : ℕ) (root_in : root < layout.count) where
  reached_if : (n d : ℕ) → distance (distances layout s.nodes root) n ≡ Some d → Reached layout s.nodes root n d
  reached_if n d e = go (reach layout s.nodes root n) refl
    where
      known : distance_in n (reach layout s.nodes root n) ≡ Some d
      known = sym (reach_is layout s.nodes root n) ∙ e

      who : (n ≡ root) ⊎ (false ≡ true) → n ≡ root
      who (inl same) = same
      who (inr never) = absurd (both_ways false refl never)

      go : (cell : Cell) → reach layout s.nodes root n ≡ cell → Reached layout s.nodes root n d
      go waiting is = absurd (none_some _ d (ap (distance_in n) is) known)
      go deaf is = here (who (deaf_who layout sound (open_marks s.nodes) root root_in (λ m. false) n is)) (some_same _ d 0 known (ap (distance_in n) is))
      go (wrote ports c) is =
          let same : c ≡ d = some_same _ c d (ap (distance_in n) is) known in
          there ports (rw same at is)

  distance_since : (n d : ℕ) → Reached layout s.nodes root n d → distance (distances layout s.nodes root) n ≡ Some d
  distance_since n d (here same zero_is) =
      rw (same, zero_is) (reach_is layout s.nodes root root ∙ ap (distance_in root) (final_owner layout sound (open_marks s.nodes) root root_in (λ m. false)))
  distance_since n d (there ports e) = reach_is layout s.nodes root n ∙ ap (distance_in n) e

  -- The root, and no other node, is at distance 0.
  pub root_zero : distance (distances layout s.nodes root) root ≡ Some 0
  root_zero = distance_since root 0 (here refl refl)

  pub zero_root : (n : ℕ) → distance (distances layout s.nodes root) n ≡ Some 0 → n ≡ root
  zero_root n e = go (reached_if n 0 e)
    where
      go : Reached layout s.nodes root n 0 → n ≡ root
      go (here same zero_is) = same
      go (there ports e) = absurd (omega (arith, (wrote_count layout sound (open_marks s.nodes) root root_in (λ m. false) n ports 0 e).0))

  pub distance_below : (n d : ℕ) → distance (distances layout s.nodes root) n ≡ Some d → d < layout.count
  distance_below n d e = go (reached_if n d e)
    where
      go : Reached layout s.nodes root n d → d < layout.count
      go (here same zero_is) = omega arith
      go (there ports e) = (wrote_count layout sound (open_marks s.nodes) root root_in (λ m. false) n ports d e).1

  pub joined_below : (n d : ℕ) → distance (distances layout s.nodes root) n ≡ Some d → n < layout.count
  joined_below n d e = go (reached_if n d e)
    where
      go : Reached layout s.nodes root n d → n < layout.count
      go (here same zero_is) = rw same root_in
      go (there ports e) = (wrote_heard layout sound (open_marks s.nodes) root root_in (λ m. false) n ports d e).0

  -- Every other joined node has a live cable to a node one nearer.
  pub nearer_cable : (n d : ℕ) → distance (distances layout s.nodes root) n ≡ Some d → (n ≡ root → ⊥) → Nearer layout s root n d
  nearer_cable n d e other = go (reached_if n d e)
    where
      from : (p : ℕ) → Came layout (open_marks s.nodes) root (λ m. false) n p d → Nearer layout s root n d
      from p came = record {
        port = p;
        node = came.node;
        far_port = came.port;
        nearer = (found came.sender).0;
        live = far_live layout s.nodes both came.node came.port n p (sound.returns n p came.node came.port came.cable) (found came.sender).1;
        cable = came.cable;
        distance_there = (found came.sender).2;
        one_less = (found came.sender).3;
      }
        where
          found : OwnerSent (open_marks s.nodes) root came.node came.port d ⊎ PassedOn layout (open_marks s.nodes) root (λ m. false) came.node came.port d →
              (e : ℕ) × (live_of s.nodes came.node came.port ≡ true) × (distance (distances layout s.nodes root) came.node ≡ Some e) × (d ≡ e + 1)
          found (inl sent) = (0, rw sent.is_owner (open_live s.nodes root came.port sent.owner_marked), distance_since came.node 0 (here sent.is_owner refl), omega (arith, sent.first_cycle))
          found (inr sent) = (sent.earlier, open_live s.nodes came.node came.port sent.marked, distance_since came.node sent.earlier (there sent.ports sent.wrote_earlier), sent.one_later)

      go : Reached layout s.nodes root n d → Nearer layout s root n d
      go (here same zero_is) = absurd (other same)
      go (there ports w) =
          let flag = wrote_port layout sound (open_marks s.nodes) root root_in (λ m. false) n ports d w in
          from flag.0 (wrote_from layout sound (open_marks s.nodes) root root_in (λ m. false) n ports d flag.0 w flag.1)

  -- Along a live cable the distance grows by at most one.
  pub distance_near : (n p m q d : ℕ) → live_of s.nodes n p ≡ true → layout.far n p ≡ Some (m, q) → distance (distances layout s.nodes root) n ≡ Some d →
      (e : ℕ) × (distance (distances layout s.nodes root) m ≡ Some e) × (e ≤ d + 1)
  distance_near n p m q d live cable e = go (cases_eq m root) (reached_if n d e)
    where
      marks : Marks
      marks = open_marks s.nodes

      back : layout.far m q ≡ Some (n, p)
      back = sound.returns n p m q cable

      arrived : (c : ℕ) → c ≤ d + 1 → Arrived layout marks root (λ i. false) m q c → (e : ℕ) × (distance (distances layout s.nodes root) m ≡ Some e) × (e ≤ d + 1)
      arrived c le there-is = (there-is.when, distance_since m there-is.when (there there-is.ports there-is.wrote_when), omega (arith, there-is.not_later))

      passed : (m ≡ root → ⊥) → (ports : Ports) → reach layout s.nodes root n ≡ wrote ports d → (has ports p ≡ true) ⊎ (has ports p ≡ false) →
          (e : ℕ) × (distance (distances layout s.nodes root) m ≡ Some e) × (e ≤ d + 1)
      passed other ports w (inl flag) = back_at came.sender
        where
          came : Came layout marks root (λ i. false) n p d
          came = wrote_from layout sound marks root root_in (λ i. false) n ports d p w flag

          same : came.node ≡ m
          same = (one_end (layout.far n p) came.node came.port m q came.cable cable).0

          back_at : OwnerSent marks root came.node came.port d ⊎ PassedOn layout marks root (λ i. false) came.node came.port d →
              (e : ℕ) × (distance (distances layout s.nodes root) m ≡ Some e) × (e ≤ d + 1)
          back_at (inl sent) = absurd (other (sym same ∙ sent.is_owner))
          back_at (inr sent) = (sent.earlier, distance_since m sent.earlier (there sent.ports (rw same at sent.wrote_earlier)), omega (arith, sent.one_later))
      passed other ports w (inr none) = arrived (d + 1) (omega arith) (arrives layout sound marks root root_in (λ i. false) m q n p (d + 1) back (inr (record {
        not_owner = (wrote_heard layout sound marks root root_in (λ i. false) n ports d w).1;
        ports = ports;
        earlier = d;
        wrote_earlier = w;
        one_later = refl;
        no_flag = none;
        marked = open_marked s.nodes n p live;
        mixed = λ up. absurd (open_not_up s.nodes n p up);
      })) other refl)

      go : (m ≡ root) ⊎ (m ≡ root → ⊥) → Reached layout s.nodes root n d → (e : ℕ) × (distance (distances layout s.nodes root) m ≡ Some e) × (e ≤ d + 1)
      go (inl same) w = (0, rw same root_zero, omega arith)
      go (inr other) (here same zero_is) = arrived 1 (omega arith) (arrives layout sound marks root root_in (λ i. false) m q n p 1 back (inl (record {
        is_owner = same;
        first_cycle = refl;
        owner_marked = open_marked s.nodes root p (rw same at live);
      })) other refl)
      go (inr other) (there ports w) = passed other ports w (cases_Bool (has ports p))

  -- So distances of neighbours differ by at most one.
  pub distance_step : (n p m q d e : ℕ) → live_of s.nodes n p ≡ true → layout.far n p ≡ Some (m, q) →
      distance (distances layout s.nodes root) n ≡ Some d → distance (distances layout s.nodes root) m ≡ Some e → e ≤ d + 1
  distance_step n p m q d e live cable at_n at_m =
      let found = distance_near n p m q d live cable at_n in
      omega (arith, some_same _ found.0 e found.1 at_m, found.2)

  -- A distance is the length of a way to the root, and of no longer one than any other.
  pub distance_way : (n d : ℕ) → distance (distances layout s.nodes root) n ≡ Some d → Way layout s n root d
  distance_way n zero e = rw (zero_root n e) stay
  distance_way n (suc d) e = go (nearer_cable n (suc d) e not_root) (λ m at. distance_way m d at)
    where
      not_root : n ≡ root → ⊥
      not_root same = let zero_is : 0 ≡ suc d = some_same _ 0 (suc d) root_zero (rw same at e) in omega arith

      go : Nearer layout s root n (suc d) → ((m : ℕ) → distance (distances layout s.nodes root) m ≡ Some d → Way layout s m root d) → Way layout s n root (suc d)
      go step rest =
          let same : step.nearer ≡ d = omega (arith, step.one_less) in
          cross step.live step.cable (rest step.node (rw same at step.distance_there))

  pub way_distance : (n k : ℕ) → Way layout s n root k → (d : ℕ) × (distance (distances layout s.nodes root) n ≡ Some d) × (d ≤ k)
  way_distance n k way = go way refl
    where
      go : {a b j : ℕ} → Way layout s a b j → b ≡ root → (d : ℕ) × (distance (distances layout s.nodes root) a ≡ Some d) × (d ≤ j)
      go (stay {n = a}) same = (0, rw same root_zero, omega arith)
      go (cross {n = a} {p = p} {m = m} {q = q} live cable rest) same =
          let found = go rest same in
          let near = distance_near m q a p found.0 (far_live layout s.nodes both a p m q cable live) (sound.returns a p m q cable) found.1 in
          (near.0, near.1, omega (arith, near.2, found.2))

  pub distance_least : (n d k : ℕ) → distance (distances layout s.nodes root) n ≡ Some d → Way layout s n root k → d ≤ k
  distance_least n d k e way = let found = way_distance n k way in omega (arith, some_same _ found.0 d found.1 e, found.2)

  pub no_distance : (n k : ℕ) → distance (distances layout s.nodes root) n ≡ None → Way layout s n root k → ⊥
  no_distance n k e way = let found = way_distance n k way in none_some _ found.0 e found.1

  pub distances_least : Distances layout s root
  distances_least = record {
    is_least = λ n d e. record { way = distance_way n d e; no_shorter = λ k way. distance_least n d k e way };
    least_is = λ n d least. is_it n d least (way_distance n d least.way);
    no_way = λ n e joined. no_distance n joined.0 e joined.1;
    way_there = λ n joined. let found = way_distance n joined.0 joined.1 in (found.0, found.1, distance_below n found.0 found.1);
  }
    where
      is_it : (n d : ℕ) → Least layout s n root d → (e : ℕ) × (distance (distances layout s.nodes root) n ≡ Some e) × (e ≤ d) → distance (distances layout s.nodes root) n ≡ Some d
      is_it n d least found =
          let same : found.0 ≡ d = omega (arith, found.2, least.no_shorter found.0 (distance_way n found.0 found.1)) in
          rw same at found.1
