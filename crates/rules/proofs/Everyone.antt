-- A broadcast reaches everyone that up*/down* marks join to the owner. The flag goes up from the
-- owner along parents to the node of depth 0, as fast as the depths allow, and from there down to
-- everyone.
use Rattle.std.proofs.Common.{◌≡◌, ℕ, zero, suc, ◌+◌, ◌<◌, ◌≤◌, Bool, true, false, ◌⊎◌, Some, sym, refl, ap, ◌∙◌, subst, inl, inr, arith}
use Rattle.std.proofs.lemmas.Bool.{both_ways, cases_Bool, cases_eq}
use Rattle.wiring.specs.Layout.{Layout, Sound}
use Rattle.rules.specs.declared.Mark.TheVariants.{Up}
use Rattle.rules.specs.Ports.{Ports, has}
use Rattle.rules.specs.Flood.{Marks, is_up, is_down, is_marked, wrote}
use Rattle.rules.proofs.Tables.{not_all_up}
use Rattle.rules.proofs.Flood.{one_end, final, Came, OwnerSent, PassedOn, Arrived, up_or_down, down_marked, up_marked, wrote_count, wrote_port, wrote_port_below, wrote_from, wrote_heard, arrives}

-- Nodes that no marked cable leaves, the owner among them.
pub record Enclosed (layout : Layout) (marks : Marks) (owner : ℕ) (In : ℕ → Type 0) : Type 0 where
  pub owner_inside : In owner
  pub closed : (n p m q : ℕ) → In n → is_marked (marks n p) ≡ true → layout.far n p ≡ Some (m, q) → In m
  pub both_marked : (n p m q : ℕ) → In n → is_marked (marks n p) ≡ true → layout.far n p ≡ Some (m, q) → is_marked (marks m q) ≡ true

module _ (layout : Layout) (sound : Sound layout) (marks : Marks) (owner : ℕ) (owner_in : owner < layout.count) (deaf_node : ℕ → Bool)
    (In : ℕ → Type 0) (enclosed : Enclosed layout marks owner In) where
  came_from_inside : (n p c : ℕ) (came : Came layout marks owner deaf_node n p c) → In came.node → is_marked (marks came.node came.port) ≡ true →
      In n × (is_marked (marks n p) ≡ true)
  came_from_inside n p c came inside marked =
      let back = sound.returns n p came.node came.port came.cable in
      (enclosed.closed came.node came.port n p inside marked back, enclosed.both_marked came.node came.port n p inside marked back)

  -- A flag stays inside.
  wrote_inside_at : (c n : ℕ) (ports : Ports) → final layout marks owner deaf_node n ≡ wrote ports c → In n
  wrote_inside_at zero n ports e = absurd (omega (arith, (wrote_count layout sound marks owner owner_in deaf_node n ports 0 e).0))
  wrote_inside_at (suc c) n ports e = go came.sender (λ m ports' e'. wrote_inside_at c m ports' e')
    where
      flag : (p : ℕ) × (has ports p ≡ true)
      flag = wrote_port layout sound marks owner owner_in deaf_node n ports (suc c) e

      came : Came layout marks owner deaf_node n flag.0 (suc c)
      came = wrote_from layout sound marks owner owner_in deaf_node n ports (suc c) flag.0 e flag.1

      go : OwnerSent marks owner came.node came.port (suc c) ⊎ PassedOn layout marks owner deaf_node came.node came.port (suc c) →
          ((m : ℕ) (ports' : Ports) → final layout marks owner deaf_node m ≡ wrote ports' c → In m) → In n
      go (inl sent) earlier = (came_from_inside n flag.0 (suc c) came (rw sent.is_owner enclosed.owner_inside) (rw sent.is_owner sent.owner_marked)).0
      go (inr sent) earlier =
          let then : sent.earlier ≡ c = omega (arith, sent.one_later) in
          (came_from_inside n flag.0 (suc c) came (earlier came.node sent.ports (rw then at sent.wrote_earlier)) sent.marked).0

  pub wrote_inside : (n : ℕ) (ports : Ports) (c : ℕ) → final layout marks owner deaf_node n ≡ wrote ports c → In n
  wrote_inside n ports c e = wrote_inside_at c n ports e

  -- The ports that got a flag are marked.
  pub wrote_marked : (n : ℕ) (ports : Ports) (c p : ℕ) → final layout marks owner deaf_node n ≡ wrote ports c → has ports p ≡ true → is_marked (marks n p) ≡ true
  wrote_marked n ports c p e h = go came.sender
    where
      came : Came layout marks owner deaf_node n p c
      came = wrote_from layout sound marks owner owner_in deaf_node n ports c p e h

      go : OwnerSent marks owner came.node came.port c ⊎ PassedOn layout marks owner deaf_node came.node came.port c → is_marked (marks n p) ≡ true
      go (inl sent) = (came_from_inside n p c came (rw sent.is_owner enclosed.owner_inside) (rw sent.is_owner sent.owner_marked)).1
      go (inr sent) = (came_from_inside n p c came (wrote_inside came.node sent.ports sent.earlier sent.wrote_earlier) sent.marked).1

-- The nodes that marked cables join to the owner, with depths: the ends of a marked cable are
-- marked opposite and differ in depth by at most one, one node has depth 0, and every other has an
-- up port to a node one less deep.
pub record Connected (layout : Layout) (marks : Marks) (owner : ℕ) (deaf_node : ℕ → Bool) (In : ℕ → Type 0) (depth : ℕ → ℕ) : Type 0 where
  pub owner_inside : In owner
  pub closed : (n p m q : ℕ) → In n → is_marked (marks n p) ≡ true → layout.far n p ≡ Some (m, q) → In m
  pub opposite_up : (n p m q : ℕ) → In n → is_marked (marks n p) ≡ true → layout.far n p ≡ Some (m, q) → is_up (marks n p) ≡ is_down (marks m q)
  pub opposite_down : (n p m q : ℕ) → In n → is_marked (marks n p) ≡ true → layout.far n p ≡ Some (m, q) → is_down (marks n p) ≡ is_up (marks m q)
  pub depth_near : (n p m q : ℕ) → In n → is_marked (marks n p) ≡ true → layout.far n p ≡ Some (m, q) → depth m ≤ depth n + 1
  pub parent : (n : ℕ) → In n → 1 ≤ depth n →
      (p : ℕ) × (m : ℕ) × (q : ℕ) × (layout.far n p ≡ Some (m, q)) × (marks n p ≡ Up) × (depth n ≡ depth m + 1)
  pub depth_zero : (n m : ℕ) → In n → In m → depth n ≡ 0 → depth m ≡ 0 → n ≡ m
  pub all_hear : (n : ℕ) → In n → (n ≡ owner → ⊥) → deaf_node n ≡ false

-- A node k parents up from the owner, reached in cycle k by a port that is not up.
data Climbed (layout : Layout) (marks : Marks) (owner : ℕ) (deaf_node : ℕ → Bool) (n k : ℕ) : Type 0 where
  starts : n ≡ owner → k ≡ 0 → Climbed layout marks owner deaf_node n k
  comes : (ports : Ports) (p : ℕ) → final layout marks owner deaf_node n ≡ wrote ports k → has ports p ≡ true → is_up (marks n p) ≡ false → Climbed layout marks owner deaf_node n k

module _ (layout : Layout) (sound : Sound layout) (marks : Marks) (owner : ℕ) (owner_in : owner < layout.count) (deaf_node : ℕ → Bool)
    (In : ℕ → Type 0) (depth : ℕ → ℕ) (connected : Connected layout marks owner deaf_node In depth) where
  -- The far end of a marked port is marked.
  far_marked : (n p m q : ℕ) → In n → is_marked (marks n p) ≡ true → layout.far n p ≡ Some (m, q) → is_marked (marks m q) ≡ true
  far_marked n p m q inside marked cable = go (up_or_down (marks n p) marked)
    where
      go : (is_down (marks n p) ≡ true) ⊎ (is_up (marks n p) ≡ true) → is_marked (marks m q) ≡ true
      go (inl down) = up_marked (marks m q) (sym (connected.opposite_down n p m q inside marked cable) ∙ down)
      go (inr up) = down_marked (marks m q) (sym (connected.opposite_up n p m q inside marked cable) ∙ up)

  pub connected_encloses : Enclosed layout marks owner In
  connected_encloses = record { owner_inside = connected.owner_inside; closed = connected.closed; both_marked = far_marked }

  -- The depth of a node that writes bounds the cycle from below.
  came_bound : (n p c : ℕ) (came : Came layout marks owner deaf_node n p c) → In n → is_marked (marks n p) ≡ true → depth owner + 1 ≤ depth came.node + c → depth owner ≤ depth n + c
  came_bound n p c came inside marked bound = omega (arith, bound, connected.depth_near n p came.node came.port inside marked came.cable)

  wrote_bound : (c n : ℕ) (ports : Ports) → final layout marks owner deaf_node n ≡ wrote ports c → depth owner ≤ depth n + c
  wrote_bound zero n ports e = absurd (omega (arith, (wrote_count layout sound marks owner owner_in deaf_node n ports 0 e).0))
  wrote_bound (suc c) n ports e = go came.sender (λ m ports' e'. wrote_bound c m ports' e')
    where
      flag : (p : ℕ) × (has ports p ≡ true)
      flag = wrote_port layout sound marks owner owner_in deaf_node n ports (suc c) e

      came : Came layout marks owner deaf_node n flag.0 (suc c)
      came = wrote_from layout sound marks owner owner_in deaf_node n ports (suc c) flag.0 e flag.1

      inside : In n
      inside = wrote_inside layout sound marks owner owner_in deaf_node In connected_encloses n ports (suc c) e

      marked : is_marked (marks n flag.0) ≡ true
      marked = wrote_marked layout sound marks owner owner_in deaf_node In connected_encloses n ports (suc c) flag.0 e flag.1

      go : OwnerSent marks owner came.node came.port (suc c) ⊎ PassedOn layout marks owner deaf_node came.node came.port (suc c) →
          ((m : ℕ) (ports' : Ports) → final layout marks owner deaf_node m ≡ wrote ports' c → depth owner ≤ depth m + c) → depth owner ≤ depth n + suc c
      go (inl sent) earlier =
          let level : depth came.node ≡ depth owner = ap depth sent.is_owner in
          came_bound n flag.0 (suc c) came inside marked (omega arith)
      go (inr sent) earlier =
          let then : sent.earlier ≡ c = omega (arith, sent.one_later) in
          came_bound n flag.0 (suc c) came inside marked (omega (arith, earlier came.node sent.ports (rw then at sent.wrote_earlier)))

  -- Up from the owner to depth 0

  Stage : ℕ → Type 0
  Stage k = (n : ℕ) × In n × (depth n + k ≡ depth owner) × Climbed layout marks owner deaf_node n k

  -- The parent of a node that was reached in cycle k is reached in cycle k + 1 by a down port.
  climb : (k n : ℕ) → In n → depth n + k ≡ depth owner → 1 ≤ depth n → Climbed layout marks owner deaf_node n k → Stage (suc k)
  unfolding Stage
  climb k n inside level deep climbed = (m, m_inside, omega (arith, above), go climbed)
    where
      found : (p : ℕ) × (m : ℕ) × (q : ℕ) × (layout.far n p ≡ Some (m, q)) × (marks n p ≡ Up) × (depth n ≡ depth m + 1)
      found = connected.parent n inside deep

      p : ℕ
      p = found.0

      m : ℕ
      m = found.1

      q : ℕ
      q = found.2

      cable : layout.far n p ≡ Some (m, q)
      cable = found.3

      above : depth n ≡ depth m + 1
      above = found.5

      marked : is_marked (marks n p) ≡ true
      marked = ap is_marked found.4

      m_inside : In m
      m_inside = connected.closed n p m q inside marked cable

      m_other : m ≡ owner → ⊥
      m_other same = let e : depth m ≡ depth owner = ap depth same in omega (arith, above)

      -- port q of the parent is down, so not up
      down : is_up (marks m q) ≡ false
      down = sym (connected.opposite_down n p m q inside marked cable) ∙ ap is_down found.4

      arrived : Arrived layout marks owner deaf_node m q (suc k) → Climbed layout marks owner deaf_node m (suc k)
      arrived there =
          let bound = wrote_bound there.when m there.ports there.wrote_when in
          let now : there.when ≡ suc k = omega (arith, bound, there.not_later, above) in
          comes there.ports q (rw now at there.wrote_when) (there.has_if_now now) down

      sent : OwnerSent marks owner n p (suc k) ⊎ PassedOn layout marks owner deaf_node n p (suc k) → Climbed layout marks owner deaf_node m (suc k)
      sent by = arrived (arrives layout sound marks owner owner_in deaf_node m q n p (suc k) (sound.returns n p m q cable) by m_other (connected.all_hear m m_inside m_other))

      -- the parent cannot have sent before
      never : (c : ℕ) → k ≡ c → Came layout marks owner deaf_node n p c → ⊥
      never c same came = either came.sender
        where
          who : came.node ≡ m
          who = (one_end (layout.far n p) came.node came.port m q came.cable cable).0

          either : OwnerSent marks owner came.node came.port c ⊎ PassedOn layout marks owner deaf_node came.node came.port c → ⊥
          either (inl by) = m_other (sym who ∙ by.is_owner)
          either (inr by) =
              let bound = wrote_bound by.earlier m by.ports (rw who at by.wrote_earlier) in
              omega (arith, bound, by.one_later, above)

      passed : (ports : Ports) (r : ℕ) → final layout marks owner deaf_node n ≡ wrote ports k → has ports r ≡ true → is_up (marks n r) ≡ false → (has ports p ≡ true) ⊎ (has ports p ≡ false) →
          Climbed layout marks owner deaf_node m (suc k)
      passed ports r e h not_up (inl flag) = absurd (never k refl (wrote_from layout sound marks owner owner_in deaf_node n ports k p e flag))
      passed ports r e h not_up (inr none) = sent (inr (record {
        not_owner = (wrote_heard layout sound marks owner owner_in deaf_node n ports k e).1;
        ports = ports;
        earlier = k;
        wrote_earlier = e;
        one_later = omega arith;
        no_flag = none;
        marked = marked;
        mixed = λ up. not_all_up marks n ports r (wrote_port_below layout sound marks owner owner_in deaf_node n ports k r e h) h not_up;
      }))

      go : Climbed layout marks owner deaf_node n k → Climbed layout marks owner deaf_node m (suc k)
      go (starts same zero_is) = sent (inl (record { is_owner = same; first_cycle = ap suc zero_is; owner_marked = subst (λ (x : ℕ). is_marked (marks x p) ≡ true) same marked }))
      go (comes ports r e h not_up) = passed ports r e h not_up (cases_Bool (has ports p))

  climbs : (k : ℕ) → k ≤ depth owner → Stage k
  unfolding Stage
  climbs zero le = (owner, connected.owner_inside, omega arith, starts refl refl)
  climbs (suc k) le =
      let last = climbs k (omega arith) in
      climb k last.0 last.1 last.2 (omega (arith, last.2)) last.3

  -- Down to everyone

  Reached : ℕ → Type 0
  Reached n = (n ≡ owner) ⊎ ((ports : Ports) × (c : ℕ) × (final layout marks owner deaf_node n ≡ wrote ports c))

  -- The node of depth 0.
  top_reached : (n : ℕ) → In n → depth n ≡ 0 → Reached n
  unfolding Stage Reached
  top_reached n inside shallow = go (climbs (depth owner) (omega arith))
    where
      either : (x : ℕ) → Climbed layout marks owner deaf_node x (depth owner) → n ≡ x → Reached n
      either x (starts same zero_is) is = inl (is ∙ same)
      either x (comes ports p e h not_up) is = inr (ports, depth owner, rw is e)

      go : (x : ℕ) × In x × (depth x + depth owner ≡ depth owner) × Climbed layout marks owner deaf_node x (depth owner) → Reached n
      go top = either top.0 top.3 (connected.depth_zero n top.0 inside top.1 shallow (omega (arith, top.2)))

  -- A node whose parent was reached is reached.
  child_reached : (n p m q : ℕ) → In n → layout.far n p ≡ Some (m, q) → marks n p ≡ Up → Reached m → Reached n
  unfolding Reached
  child_reached n p m q inside cable up parent = decide (cases_eq n owner)
    where
      marked : is_marked (marks n p) ≡ true
      marked = ap is_marked up

      down : is_down (marks m q) ≡ true
      down = sym (connected.opposite_up n p m q inside marked cable) ∙ ap is_up up

      not_up : is_up (marks m q) ≡ false
      not_up = sym (connected.opposite_down n p m q inside marked cable) ∙ ap is_down up

      sent : (c : ℕ) → (n ≡ owner → ⊥) → OwnerSent marks owner m q c ⊎ PassedOn layout marks owner deaf_node m q c → Reached n
      sent c other by =
          let there = arrives layout sound marks owner owner_in deaf_node n p m q c cable by other (connected.all_hear n inside other) in
          inr (there.ports, there.when, there.wrote_when)

      -- the parent's own flag came from the node
      came : (c : ℕ) → Came layout marks owner deaf_node m q c → Reached n
      came c flag = either flag.sender
        where
          who : flag.node ≡ n
          who = (one_end (layout.far m q) flag.node flag.port n p flag.cable (sound.returns n p m q cable)).0

          either : OwnerSent marks owner flag.node flag.port c ⊎ PassedOn layout marks owner deaf_node flag.node flag.port c → Reached n
          either (inl by) = inl (sym who ∙ by.is_owner)
          either (inr by) = inr (by.ports, by.earlier, rw who at by.wrote_earlier)

      passed : (n ≡ owner → ⊥) → (ports : Ports) (c : ℕ) → final layout marks owner deaf_node m ≡ wrote ports c → (has ports q ≡ true) ⊎ (has ports q ≡ false) → Reached n
      passed other ports c e (inl flag) = came c (wrote_from layout sound marks owner owner_in deaf_node m ports c q e flag)
      passed other ports c e (inr none) = sent (c + 1) other (inr (record {
        not_owner = (wrote_heard layout sound marks owner owner_in deaf_node m ports c e).1;
        ports = ports;
        earlier = c;
        wrote_earlier = e;
        one_later = refl;
        no_flag = none;
        marked = down_marked (marks m q) down;
        mixed = λ is. absurd (both_ways (is_up (marks m q)) not_up is);
      }))

      from : (n ≡ owner → ⊥) → (m ≡ owner) ⊎ ((ports : Ports) × (c : ℕ) × (final layout marks owner deaf_node m ≡ wrote ports c)) → Reached n
      from other (inl same) = sent 1 other (inl (record { is_owner = same; first_cycle = refl; owner_marked = rw same at (down_marked (marks m q) down) }))
      from other (inr (ports, c, e)) = passed other ports c e (cases_Bool (has ports q))

      decide : (n ≡ owner) ⊎ (n ≡ owner → ⊥) → Reached n
      decide (inl same) = inl same
      decide (inr other) = from other parent

  reached_by_depth : (d n : ℕ) → depth n ≡ d → In n → Reached n
  reached_by_depth zero n e inside = top_reached n inside e
  reached_by_depth (suc d) n e inside =
      let up = connected.parent n inside (omega arith) in
      child_reached n up.0 up.1 up.2 inside up.3 up.4
      (reached_by_depth d up.1 (omega (arith, up.5)) (connected.closed n up.0 up.1 up.2 inside (ap is_marked up.4) up.3))

  pub everyone : (n : ℕ) → In n → (n ≡ owner → ⊥) → (ports : Ports) × (c : ℕ) × (final layout marks owner deaf_node n ≡ wrote ports c)
  unfolding Reached
  everyone n inside other = go (reached_by_depth (depth n) n refl inside)
    where
      go : (n ≡ owner) ⊎ ((ports : Ports) × (c : ℕ) × (final layout marks owner deaf_node n ≡ wrote ports c)) → (ports : Ports) × (c : ℕ) × (final layout marks owner deaf_node n ≡ wrote ports c)
      go (inl same) = absurd (other same)
      go (inr entry) = entry
