-- The flags of a broadcast, and that its cells say what they do: an entry is what the first flags
-- of a node brought. The flags are read from the cells of each cycle; no others obey the rules of
-- sending, since those of a cycle follow from those before it.
use Rattle.std.proofs.Common.{◌≡◌, ℕ, zero, suc, ◌<◌, ◌≤◌, Bool, true, false, eqb, ◌⊎◌, List, Some, sym, refl, ap, ◌∙◌, subst, inl, inr, arith}
use mathlib.Core.Path.{fun_ext}
use Rattle.std.proofs.lemmas.Bool.{both_ways, eqb-true, and_parts, and_from, or_from, ne_eqb, cases_Bool, cases_eq, cases_lt}
use Rattle.wiring.specs.Layout.{Layout, Sound}
use Rattle.rules.specs.Ports.{Ports, has, ports_where}
use Rattle.rules.specs.Flood.{Marks, is_up, is_marked, Cell, waiting, deaf, wrote, cell_of, all_up, sends, gets, spread}
use Rattle.rules.specs.Laws.{Arrivals, First, Sent, by_owner, passed_on, Flags, Writes, FloodLaw}
use Rattle.rules.proofs.Tables.{where_at, where_past, where_some, some_port_has, all_up_true, all_up_false}
use Rattle.rules.proofs.Flood.{SendsOn, owner_sends, sends_what, sends_since, gets_what, gets_since, next_reached, waiting_wrote, waiting_deaf, reached_true, cells_at, at, final, Born, at_suc, at_born, born_in, born_flag, at_hears, waiting_before, ends, written, wrote_born, final_owner, final_deaf, wrote_heard, deaf_who, got_arrives}

-- The flags of the cells, cycle by cycle.
flag_of : Layout → Marks → ℕ → (ℕ → Bool) → Arrivals
flag_of layout marks owner deaf_node zero n p = false
flag_of layout marks owner deaf_node (suc c) n p = gets layout marks owner c (cells_at layout marks owner deaf_node c) n p

-- The entry that the flags of cycle c brought node n, as it stands after that cycle.
record Entered (layout : Layout) (marks : Marks) (owner : ℕ) (deaf_node : ℕ → Bool) (c n : ℕ) : Type 0 where
  ports : Ports
  there : at layout marks owner deaf_node c n ≡ wrote ports c
  reads : (p : ℕ) → has ports p ≡ flag_of layout marks owner deaf_node c n p
  below : (p : ℕ) → has ports p ≡ true → p < 4

module _ (layout : Layout) (sound : Sound layout) (marks : Marks) (owner : ℕ) (owner_in : owner < layout.count) (deaf_node : ℕ → Bool) where
  -- A port with a cable is a port of a node.
  got_inside : (c n p : ℕ) → gets layout marks owner c (cells_at layout marks owner deaf_node c) n p ≡ true → (n < layout.count) × (p < 4)
  got_inside c n p e =
      let got = gets_what layout marks owner c (cells_at layout marks owner deaf_node c) n p e in
      sound.in_range got.0 got.1 n p (sound.returns n p got.0 got.1 got.2)

  waits_before : (j k n : ℕ) → j ≤ k → at layout marks owner deaf_node k n ≡ waiting → at layout marks owner deaf_node j n ≡ waiting
  waits_before j zero n le e = let same : 0 ≡ j = omega arith in rw same at e
  waits_before j (suc k) n le e = go (cases_eq (suc k) j) (λ less. waits_before j k n less (waiting_before layout marks owner deaf_node k n e))
    where
      go : (suc k ≡ j) ⊎ (suc k ≡ j → ⊥) → (j ≤ k → at layout marks owner deaf_node j n ≡ waiting) → at layout marks owner deaf_node j n ≡ waiting
      go (inl same) earlier = rw same at e
      go (inr other) earlier = earlier (omega arith)

  -- A node that waits after cycle k got no flag up to then.
  waits_none : (k j n p : ℕ) → at layout marks owner deaf_node k n ≡ waiting → j ≤ k → flag_of layout marks owner deaf_node j n p ≡ false
  unfolding flag_of
  waits_none k zero n p e le = refl
  waits_none k (suc j) n p e le = go (cases_Bool (gets layout marks owner j cells n p))
    where
      cells : List Cell
      cells = cells_at layout marks owner deaf_node j

      go : (gets layout marks owner j cells n p ≡ true) ⊎ (gets layout marks owner j cells n p ≡ false) → gets layout marks owner j cells n p ≡ false
      go (inr none) = none
      go (inl got) = absurd (waiting_wrote _ _ (suc j) (waits_before (suc j) k n le e)
          (at_suc layout marks owner deaf_node j n (got_inside j n p got).0
          ∙ next_reached layout marks owner j cells n (waits_before j k n (omega arith) e) (where_some (gets layout marks owner j cells n) p (got_inside j n p got).1 got)))

  -- What was written is what the first flags brought.
  born_first : (n : ℕ) (ports : Ports) (c : ℕ) → Born layout marks owner deaf_node n ports c →
      First (flag_of layout marks owner deaf_node) (suc c) n × ((p : ℕ) → has ports p ≡ flag_of layout marks owner deaf_node (suc c) n p)
  unfolding flag_of
  born_first n ports c born = (record { port = flag.0; now = (born_flag layout marks owner deaf_node n ports c flag.0 born flag.2).1; none_before = λ j p less. waits_none c j n p born.waited (omega arith) }, reads)
    where
      cells : List Cell
      cells = cells_at layout marks owner deaf_node c

      flag : (p : ℕ) × (p < 4) × (has ports p ≡ true)
      flag = some_port_has ports born.some_flag

      none_past : (p : ℕ) → 4 ≤ p → (gets layout marks owner c cells n p ≡ true) ⊎ (gets layout marks owner c cells n p ≡ false) → false ≡ gets layout marks owner c cells n p
      none_past p past (inl got) = absurd (omega (arith, (got_inside c n p got).1))
      none_past p past (inr none) = sym none

      read : (p : ℕ) → (p < 4) ⊎ (4 ≤ p) → has (ports_where (gets layout marks owner c cells n)) p ≡ gets layout marks owner c cells n p
      read p (inl below) = where_at (gets layout marks owner c cells n) p below
      read p (inr past) = where_past (gets layout marks owner c cells n) p past ∙ none_past p past (cases_Bool (gets layout marks owner c cells n p))

      reads : (p : ℕ) → has ports p ≡ gets layout marks owner c cells n p
      reads p = ap (λ w. has w p) born.ports_are ∙ read p (cases_lt p 4)

  entered : (c n : ℕ) (ports : Ports) → at layout marks owner deaf_node (suc c) n ≡ wrote ports (suc c) → Entered layout marks owner deaf_node (suc c) n
  entered c n ports e =
      let born = born_in layout marks owner deaf_node (suc c) n ports c e in
      record { ports = ports; there = e; reads = (born_first n ports c born).1; below = λ p h. (born_flag layout marks owner deaf_node n ports c p born h).0 }

  -- A node that heeds flags has, after the cycle of its first, an entry of that cycle.
  first_enters : (n c : ℕ) → (n ≡ owner → ⊥) → deaf_node n ≡ false → First (flag_of layout marks owner deaf_node) c n → Entered layout marks owner deaf_node c n
  unfolding flag_of
  first_enters n zero other hears first = absurd (both_ways false refl first.now)
  first_enters n (suc c) other hears first = go (at layout marks owner deaf_node c n) refl
    where
      cells : List Cell
      cells = cells_at layout marks owner deaf_node c

      flags : Ports
      flags = ports_where (gets layout marks owner c cells n)

      inside : (n < layout.count) × (first.port < 4)
      inside = got_inside c n first.port first.now

      go : (cell : Cell) → cell_of cells n ≡ cell → Entered layout marks owner deaf_node (suc c) n
      go waiting was = entered c n flags (at_suc layout marks owner deaf_node c n inside.0 ∙ next_reached layout marks owner c cells n was (where_some (gets layout marks owner c cells n) first.port inside.1 first.now))
      go deaf was = absurd (at_hears layout marks owner deaf_node c n (or_from (eqb n owner) (deaf_node n) (ne_eqb n owner other) hears) was)
      go (wrote ports k) was =
          let born = at_born layout marks owner deaf_node c n ports k was in
          let earlier = (born_first n ports born.0 born.3).0 in
          absurd (both_ways _ (first.none_before (suc born.0) earlier.port (omega (arith, born.1, born.2))) earlier.now)

  -- The flags obey the rules of sending

  flag_arrives : (n p : ℕ) {c m q : ℕ} → Sent marks owner deaf_node (flag_of layout marks owner deaf_node) c m q → layout.far n p ≡ Some (m, q) → flag_of layout marks owner deaf_node c n p ≡ true
  unfolding flag_of
  flag_arrives n p (by_owner {q = q} marked) cable =
      gets_since layout marks owner 0 (cells_at layout marks owner deaf_node 0) n p owner q cable
      ∙ owner_sends marks owner 0 (cells_at layout marks owner deaf_node 0) owner q refl ∙ and_from (eqb 0 0) (is_marked (marks owner q)) refl marked
  flag_arrives n p (passed_on {c = c} {n = m} {q = q} other hears first marked none down) cable =
      gets_since layout marks owner c (cells_at layout marks owner deaf_node c) n p m q cable
      ∙ sends_since marks owner c (cells_at layout marks owner deaf_node c) m q other (record {
        ports = here.ports;
        wrote_now = here.there;
        no_flag = here.reads q ∙ none;
        marked = marked;
        mixed = λ up. mixed up (cases_Bool (all_up marks m here.ports));
      })
    where
      here : Entered layout marks owner deaf_node c m
      here = first_enters m c other hears first

      mixed : is_up (marks m q) ≡ true → (all_up marks m here.ports ≡ true) ⊎ (all_up marks m here.ports ≡ false) → all_up marks m here.ports ≡ false
      mixed up (inr some-down) = some-down
      mixed up (inl all) = absurd (both_ways (is_up (marks m q)) (down (λ r got. all_up_true marks m here.ports r all (here.below r (here.reads r ∙ got)) (here.reads r ∙ got))) up)

  sent_by_owner : (c m q : ℕ) → m ≡ owner → sends marks owner c (cells_at layout marks owner deaf_node c) m q ≡ true → Sent marks owner deaf_node (flag_of layout marks owner deaf_node) (suc c) m q
  sent_by_owner c m q same e =
      let parts = and_parts (eqb c 0) (is_marked (marks m q)) (sym (owner_sends marks owner c (cells_at layout marks owner deaf_node c) m q same) ∙ e) in
      rw (same, eqb-true c 0 parts.0) (by_owner (rw same at parts.1))

  sent_onward : (c m q : ℕ) → (m ≡ owner → ⊥) → sends marks owner c (cells_at layout marks owner deaf_node c) m q ≡ true → Sent marks owner deaf_node (flag_of layout marks owner deaf_node) (suc c) m q
  sent_onward zero m q other e =
      let on = sends_what marks owner 0 (cells_at layout marks owner deaf_node 0) m q other e in
      let born = at_born layout marks owner deaf_node 0 m on.ports 0 on.wrote_now in
      absurd (omega (arith, born.1))
  sent_onward (suc c) m q other e = passed_on other heeds (born_first m on.ports c born).0 on.marked (sym (reads q) ∙ on.no_flag) (λ ups. down ups (cases_Bool (is_up (marks m q))))
    where
      on : SendsOn marks (suc c) (cells_at layout marks owner deaf_node (suc c)) m q
      on = sends_what marks owner (suc c) (cells_at layout marks owner deaf_node (suc c)) m q other e

      born : Born layout marks owner deaf_node m on.ports c
      born = born_in layout marks owner deaf_node (suc c) m on.ports c on.wrote_now

      reads : (p : ℕ) → has on.ports p ≡ flag_of layout marks owner deaf_node (suc c) m p
      reads = (born_first m on.ports c born).1

      heeds : deaf_node m ≡ false
      heeds = (wrote_heard layout sound marks owner owner_in deaf_node m on.ports (suc c) (written layout sound marks owner owner_in deaf_node (suc c) m on.ports (suc c) on.wrote_now)).2

      down : ((p : ℕ) → flag_of layout marks owner deaf_node (suc c) m p ≡ true → is_up (marks m p) ≡ true) → (is_up (marks m q) ≡ true) ⊎ (is_up (marks m q) ≡ false) → is_up (marks m q) ≡ false
      down ups (inr not_up) = not_up
      down ups (inl up) =
          let mixed = all_up_false marks m on.ports (on.mixed up) in
          absurd (both_ways (is_up (marks m mixed.0)) mixed.3 (ups mixed.0 (sym (reads mixed.0) ∙ mixed.2)))

  flag_was_sent : (c n p : ℕ) → flag_of layout marks owner deaf_node c n p ≡ true →
      (m : ℕ) × (q : ℕ) × (layout.far n p ≡ Some (m, q)) × Sent marks owner deaf_node (flag_of layout marks owner deaf_node) c m q
  unfolding flag_of
  flag_was_sent zero n p e = absurd (both_ways false refl e)
  flag_was_sent (suc c) n p e = (got.0, got.1, got.2, who (cases_eq got.0 owner))
    where
      got : (m : ℕ) × (q : ℕ) × (layout.far n p ≡ Some (m, q)) × (sends marks owner c (cells_at layout marks owner deaf_node c) m q ≡ true)
      got = gets_what layout marks owner c (cells_at layout marks owner deaf_node c) n p e

      who : (got.0 ≡ owner) ⊎ (got.0 ≡ owner → ⊥) → Sent marks owner deaf_node (flag_of layout marks owner deaf_node) (suc c) got.0 got.1
      who (inl same) = sent_by_owner c got.0 got.1 same got.3
      who (inr other) = sent_onward c got.0 got.1 other got.3

  flags_of : Flags layout marks owner deaf_node (flag_of layout marks owner deaf_node)
  flags_of = record { arrives = λ c n p m q cable sent. flag_arrives n p sent cable; was_sent = flag_was_sent }

  -- What the cells say of them

  flag_writes : Writes layout marks owner deaf_node (flag_of layout marks owner deaf_node)
  unfolding flag_of
  flag_writes = record { entry_first = entry_first; waiting_none = waiting_none; deaf_stays = deaf_stays; deaf_only = deaf_who layout sound marks owner owner_in deaf_node; each_reaches = each_reaches; none_later = none_later }
    where
      flag : Arrivals
      flag = flag_of layout marks owner deaf_node

      entry_first : (n c : ℕ) (ports : Ports) → final layout marks owner deaf_node n ≡ wrote ports c → First flag c n × ((p : ℕ) → has ports p ≡ flag c n p)
      entry_first n c ports e =
          let born = wrote_born layout sound marks owner owner_in deaf_node n ports c e in
          rw born.1 (born_first n ports born.0 born.3)

      waiting_none : (n c p : ℕ) → final layout marks owner deaf_node n ≡ waiting → flag c n p ≡ false
      waiting_none n zero p e = refl
      waiting_none n (suc c) p e = go (cases_Bool (gets layout marks owner c (cells_at layout marks owner deaf_node c) n p))
        where
          other : n ≡ owner → ⊥
          other same = waiting_deaf _ e (rw same (final_owner layout sound marks owner owner_in deaf_node))

          hears : n < layout.count → (deaf_node n ≡ true) ⊎ (deaf_node n ≡ false) → deaf_node n ≡ false
          hears below (inl ignores) = absurd (waiting_deaf _ e (final_deaf layout sound marks owner owner_in deaf_node n below ignores))
          hears below (inr is) = is

          go : (gets layout marks owner c (cells_at layout marks owner deaf_node c) n p ≡ true) ⊎ (gets layout marks owner c (cells_at layout marks owner deaf_node c) n p ≡ false) →
              gets layout marks owner c (cells_at layout marks owner deaf_node c) n p ≡ false
          go (inr none) = none
          go (inl got) =
              let inside = got_inside c n p got in
              let there = got_arrives layout sound marks owner owner_in deaf_node n p c inside.1 inside.0 other (hears inside.0 (cases_Bool (deaf_node n))) got in
              absurd (waiting_wrote _ there.ports there.when e there.wrote_when)

      deaf_stays : (n : ℕ) → n < layout.count → (n ≡ owner) ⊎ (deaf_node n ≡ true) → final layout marks owner deaf_node n ≡ deaf
      deaf_stays n below (inl same) = rw same (final_owner layout sound marks owner owner_in deaf_node)
      deaf_stays n below (inr ignores) = final_deaf layout sound marks owner owner_in deaf_node n below ignores

      reaches : (c : ℕ) → c < (spread layout marks owner deaf_node).cycles → (n : ℕ) × (n ≡ owner → ⊥) × (deaf_node n ≡ false) × First flag (suc c) n
      reaches c below =
          let found = reached_true (suc c) (cells_at layout marks owner deaf_node (suc c)) ((ends layout marks owner deaf_node).each c (omega arith) below) in
          let e = written layout sound marks owner owner_in deaf_node (suc c) found.0 found.1 (suc c) found.2 in
          let heard = wrote_heard layout sound marks owner owner_in deaf_node found.0 found.1 (suc c) e in
          (found.0, heard.1, heard.2, (entry_first found.0 (suc c) found.1 e).0)

      each_reaches : (c : ℕ) → 1 ≤ c → c ≤ (spread layout marks owner deaf_node).cycles → (n : ℕ) × (n ≡ owner → ⊥) × (deaf_node n ≡ false) × First flag c n
      each_reaches zero some le = absurd (omega arith)
      each_reaches (suc c) some le = reaches c le

      none_later : (n c : ℕ) → (n ≡ owner → ⊥) → deaf_node n ≡ false → First flag c n → c ≤ (spread layout marks owner deaf_node).cycles
      none_later n c other hears first =
          let here = first_enters n c other hears first in
          (wrote_born layout sound marks owner owner_in deaf_node n here.ports c (written layout sound marks owner owner_in deaf_node c n here.ports c here.there)).2

-- No other flags obey the rules

same_tests : (x y : Bool) → (x ≡ true → y ≡ true) → (y ≡ true → x ≡ true) → x ≡ y
same_tests true y to back = sym (to refl)
same_tests false true to back = back refl
same_tests false false to back = refl

-- What is sent in a cycle depends on the flags before it.
sent_alike : (marks : Marks) (owner : ℕ) (deaf_node : ℕ → Bool) (flag other : Arrivals) {c m q : ℕ} → Sent marks owner deaf_node flag c m q →
    ((j n p : ℕ) → j < c → flag j n p ≡ other j n p) → Sent marks owner deaf_node other c m q
sent_alike marks owner deaf_node flag other (by_owner marked) alike = by_owner marked
sent_alike marks owner deaf_node flag other (passed_on {c = c} {n = n} {q = q} not_owner hears first marked none down) alike =
    passed_on not_owner hears
    (record {
      port = first.port;
      now = sym (alike c n first.port (omega arith)) ∙ first.now;
      none_before = λ j p less. sym (alike j n p (omega arith)) ∙ first.none_before j p less;
    })
    marked (sym (alike c n q (omega arith)) ∙ none) (λ ups. down (λ p got. ups p (sym (alike c n p (omega arith)) ∙ got)))

module _ (layout : Layout) (marks : Marks) (owner : ℕ) (deaf_node : ℕ → Bool) where
  arrives_alike : (flag other : Arrivals) → Flags layout marks owner deaf_node flag → Flags layout marks owner deaf_node other →
      (c n p : ℕ) → ((j m q : ℕ) → j < c → flag j m q ≡ other j m q) → flag c n p ≡ true → other c n p ≡ true
  arrives_alike flag other rules rules' c n p alike got =
      let sent = rules.was_sent c n p got in
      rules'.arrives c n p sent.0 sent.1 sent.2 (sent_alike marks owner deaf_node flag other sent.3 alike)

  flags_alike : (flag other : Arrivals) → Flags layout marks owner deaf_node flag → Flags layout marks owner deaf_node other →
      (k j n p : ℕ) → j < k → flag j n p ≡ other j n p
  flags_alike flag other rules rules' zero j n p less = absurd (omega arith)
  flags_alike flag other rules rules' (suc k) j n p less =
      let before : (i m q : ℕ) → i < k → flag i m q ≡ other i m q = λ i m q below. flags_alike flag other rules rules' k i m q below in
      same_tests (flag j n p) (other j n p)
      (arrives_alike flag other rules rules' j n p (λ i m q below. before i m q (omega arith)))
      (arrives_alike other flag rules' rules j n p (λ i m q below. sym (before i m q (omega arith))))

pub flood_law : FloodLaw
flood_law layout sound marks owner owner_in deaf_node = (
  (flag_of layout marks owner deaf_node, flags_of layout sound marks owner owner_in deaf_node),
  λ flag rules. subst (λ (f : Arrivals). Writes layout marks owner deaf_node f) (same flag rules) (flag_writes layout sound marks owner owner_in deaf_node),
)
  where
    same : (flag : Arrivals) → Flags layout marks owner deaf_node flag → flag_of layout marks owner deaf_node ≡ flag
    same flag rules =
        fun_ext (λ c. fun_ext (λ n. fun_ext (λ p.
        flags_alike layout marks owner deaf_node (flag_of layout marks owner deaf_node) flag (flags_of layout sound marks owner owner_in deaf_node) rules (suc c) c n p (omega arith))))
