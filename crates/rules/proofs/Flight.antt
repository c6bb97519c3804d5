-- One packet's flight through a quiet run from a calm wall: it is still in flight at the end, or
-- it was delivered after as many crossings as its node's entry counted, or it was returned where
-- it stood.
use Rattle.std.proofs.Common.{◌≡◌, ℕ, ◌+◌, ◌≤◌, cond, eqb, ◌⊎◌, List, [], ◌∷◌, ◌++◌, sym, refl, ap, ◌∙◌, subst, inl, inr, arith}
use Rattle.std.specs.List.{ContainsAt as Has}
use Rattle.std.proofs.ByRecursion.{has_append_left, has_append_right, has_push_cases}
use Rattle.std.proofs.lemmas.Bool.{cond-true, eq-eqb}
use Rattle.wiring.specs.Layout.{Layout, Sound}
use Rattle.rules.specs.declared.Ending.TheVariants.{Delivered, Returned}
use Rattle.rules.specs.declared.Outcome.{Outcome}
use Rattle.rules.specs.declared.Packet.{Packet}
use Rattle.rules.specs.Ports.{Ports}
use Rattle.rules.specs.State.{Node, State, Entry, entry, nothing, entry_of}
use Rattle.rules.specs.Calls.{posted, after_post}
use Rattle.rules.specs.Step.{moved_to}
use Rattle.rules.specs.Runs.{Call, Reply, Does, Event, Run, ends, goes}
use Rattle.rules.specs.Promise.{Calm, Quiet, outcomes_of, outcomes_in, crossed_of, crossings, times_in, outcomes_for, ended}
use Rattle.rules.proofs.Invariant.{Invariant, Leads, entry_at}
use Rattle.rules.proofs.Members.{has_none, has_cases}
use Rattle.rules.proofs.Sweep.{Crosses, Strands, Stepped, stepped, left_numbers, no_crossing_of, no_outcome_of, Fared, fared, stayed, went_on, was_delivered, was_returned}
use Rattle.rules.proofs.StepKeeps.{crossed_leads}
use Rattle.rules.proofs.CalmRuns.{Change, idles, gains, moves, calm_change, change_keeps_nodes, calm_nodes}

-- Counting outcomes

outcomes_append : (k : ℕ) (os ps : List Outcome) → outcomes_for k (os ++ ps) ≡ outcomes_for k os + outcomes_for k ps
outcomes_append k [] ps = omega arith
outcomes_append k (o ∷ os) ps = omega (arith, outcomes_append k os ps)

counts_here : (a k : ℕ) → a ≡ k → cond {A = ℕ} (eqb a k) 1 0 ≡ 1
counts_here a k e = cond-true (eqb a k) 1 0 (eq-eqb a k e)

-- An outcome in the list counts.
pub outcome_counts : (k : ℕ) (os : List Outcome) (o : Outcome) → Has os o → o.number ≡ k → 1 ≤ outcomes_for k os
outcome_counts k [] o has e = absurd (has_none o has)
outcome_counts k (p ∷ os) o has e = go (has_cases p os o has) (λ h. outcome_counts k os o h e)
  where
    go : (p ≡ o) ⊎ Has os o → (Has os o → 1 ≤ outcomes_for k os) → 1 ≤ outcomes_for k (p ∷ os)
    go (inl same) later = omega (arith, counts_here p.number k (ap (λ q. q.number) same ∙ e))
    go (inr there) later = omega (arith, later there)

-- A packet with one outcome has no other.
pub sole_outcome : (k : ℕ) (os : List Outcome) (o p : Outcome) → outcomes_for k os ≡ 1 →
    Has os o → Has os p → o.number ≡ k → p.number ≡ k → o ≡ p
sole_outcome k [] o p one has-o has_p e f = absurd (has_none o has-o)
sole_outcome k (q ∷ os) o p one has-o has_p e f = go (has_cases q os o has-o) (has_cases q os p has_p)
    (λ one a b. sole_outcome k os o p one a b e f)
  where
    not_both : (o p : Outcome) → q ≡ o → o.number ≡ k → Has os p → p.number ≡ k → ⊥
    not_both o p same e has f =
        omega (arith, one, counts_here q.number k (ap (λ r. r.number) same ∙ e), outcome_counts k os p has f)

    go : (q ≡ o) ⊎ Has os o → (q ≡ p) ⊎ Has os p → (outcomes_for k os ≡ 1 → Has os o → Has os p → o ≡ p) → o ≡ p
    go (inl a) (inl b) later = sym a ∙ b
    go (inl a) (inr b) later = absurd (not_both o p a e b f)
    go (inr a) (inl b) later = absurd (not_both p o b f a e)
    go (inr a) (inr b) later = later (omega (arith, one, outcome_counts k os o a e)) a b

-- The cables ahead of a packet

abbrev pub count_in : Entry → ℕ
count_in nothing = 0
count_in (entry ports count) = count

-- The cables that its node's entry for its destination counts; none without an entry.
abbrev pub ahead : List Node → Packet → ℕ
ahead nodes x = count_in (entry_of nodes x.node x.destination)

-- It stands at its destination or has an entry for it.
abbrev pub Led : List Node → Packet → Type 0
Led nodes x = (x.node ≡ x.destination) ⊎ ((ports : Ports) × (count : ℕ) × (entry_of nodes x.node x.destination ≡ entry ports count))

strands_not_led : (nodes : List Node) (x : Packet) → Strands nodes x → Led nodes x → ⊥
strands_not_led nodes x strands (inl there) = strands.elsewhere there
strands_not_led nodes x strands (inr (ports, count, e)) =
    let none = strands.no_entry in let clash : ◌≡◌ {A = ℕ} 0 1 = cc in omega arith

-- A crossing leads to a node that is the destination or has an entry, with one cable fewer ahead.
pub crossing_leads : (layout : Layout) (sound : Sound layout) (s : State) → Invariant layout s →
    (others : List Packet) (x : Packet) (m q : ℕ) → Crosses layout s.nodes others x m q →
    (ahead s.nodes x ≡ ahead s.nodes (moved_to m q x) + 1) × Led s.nodes (moved_to m q x)
crossing_leads layout sound s inv others x m q how = go (crossed_leads layout sound s inv others x m q how)
  where
    go : Leads s m q x.destination how.count →
        (ahead s.nodes x ≡ ahead s.nodes (moved_to m q x) + 1) × Led s.nodes (moved_to m q x)
    go (inl there) =
        let none : entry_at s m x.destination ≡ nothing = subst (λ y. entry_at s m y ≡ nothing) there.0 (inv.routed.own_nothing m) in
        (omega (arith, ap count_in how.entered, ap count_in none, there.1), inl there.0)
    go (inr on) = (omega (arith, ap count_in how.entered, ap count_in on.3, on.4), inr (on.0, on.1, on.3))

-- A number that no packet has

abbrev Absent : ℕ → List Packet → Type 0
Absent k xs = (y : Packet) → Has xs y → y.number ≡ k → ⊥

-- No outcome, no crossing, no packet afterwards, nor given out again.
record Unused (k : ℕ) (reply : Reply) (next : State) : Type 0 where
  none_ended : outcomes_for k (outcomes_of reply) ≡ 0
  none_crossed : times_in k (crossed_of reply) ≡ 0
  none_left : Absent k next.packets
  given_out : k ≤ next.last

absent_posted : (s next : State) (source destination word k : ℕ) → next ≡ after_post s source destination word →
    k ≤ s.last → Absent k s.packets → Absent k next.packets × (k ≤ next.last)
unfolding after_post
absent_posted s next source destination word k e given none = (
  λ y has same. go y (has_push_cases s.packets (posted s source destination word) y (subst (λ t. Has t.packets y) e has)) same,
  omega (arith, ap (λ t. t.last) e),
)
  where
    go : (y : Packet) → Has s.packets y ⊎ (posted s source destination word ≡ y) → y.number ≡ k → ⊥
    go y (inl old) same = none y old same
    go y (inr new) same = omega (arith, ap (λ z. z.number) new)

has_posted : (s next : State) (source destination word : ℕ) → next ≡ after_post s source destination word →
    (x : Packet) → Has s.packets x → Has next.packets x
unfolding after_post
has_posted s next source destination word e x has =
    subst (λ t. Has t.packets x) (sym e) (has_append_left s.packets (posted s source destination word ∷ []) x has)

module _ (layout : Layout) (sound : Sound layout) where
  unused_change : (s next : State) (reply : Reply) (k : ℕ) → Change layout s reply next →
      k ≤ s.last → Absent k s.packets → Unused k reply next
  unused_change s next reply k (idles idle) given none = record {
    none_ended = ap (outcomes_for k) idle.none_ended;
    none_crossed = ap (times_in k) idle.none_crossed;
    none_left = subst (Absent k) (sym idle.same_packets) none;
    given_out = omega (arith, idle.same_last);
  }
  unused_change s next reply k (gains source destination word e f) given none =
      let new = absent_posted s next source destination word k f given none in
      record {
        none_ended = ap (λ r. outcomes_for k (outcomes_of r)) e;
        none_crossed = ap (λ r. times_in k (crossed_of r)) e;
        none_left = new.0;
        given_out = new.1;
      }
  unused_change s next reply k (moves {counts} {outcomes} {crossed} {asked} how e) given none =
      let step = stepped layout sound s next counts outcomes crossed asked how in
      record {
        none_ended = ap (λ r. outcomes_for k (outcomes_of r)) e ∙ no_outcome_of layout s.nodes step.sweeps k none;
        none_crossed = ap (λ r. times_in k (crossed_of r)) e ∙ no_crossing_of layout s.nodes step.sweeps k none;
        none_left = left_numbers layout s.nodes (λ n. n ≡ k → ⊥) step.sweeps none;
        given_out = omega (arith, step.same_last);
      }

-- The flight

-- How a packet fares in a run over these nodes.
pub data Flight (nodes : List Node) (x : Packet) (log : List Event) (end : State) : Type 0 where
  flies : (y : Packet) → Has end.packets y → outcomes_for x.number (outcomes_in log) ≡ 0 → Flight nodes x log end
  lands : Has (outcomes_in log) (ended Delivered x.destination x) → outcomes_for x.number (outcomes_in log) ≡ 1 →
      crossings x.number log ≡ ahead nodes x → Led nodes x → Flight nodes x log end
  turns_back : Has (outcomes_in log) (ended Returned x.node x) → outcomes_for x.number (outcomes_in log) ≡ 1 →
      (Led nodes x → ⊥) → Flight nodes x log end

-- An event that does nothing to the packet.
passed_by : (nodes : List Node) (x : Packet) (e : Event) (log : List Event) (end : State) →
    outcomes_for x.number (outcomes_of e.reply) ≡ 0 → times_in x.number (crossed_of e.reply) ≡ 0 →
    Flight nodes x log end → Flight nodes x (e ∷ log) end
passed_by nodes x e log end out over (flies y has none) =
    flies y has (omega (arith, outcomes_append x.number (outcomes_of e.reply) (outcomes_in log)))
passed_by nodes x e log end out over (lands has one count led) =
    lands (has_append_right (outcomes_of e.reply) (outcomes_in log) (ended Delivered x.destination x) has)
    (omega (arith, outcomes_append x.number (outcomes_of e.reply) (outcomes_in log))) (omega arith) led
passed_by nodes x e log end out over (turns_back has one lost) =
    turns_back (has_append_right (outcomes_of e.reply) (outcomes_in log) (ended Returned x.node x) has)
    (omega (arith, outcomes_append x.number (outcomes_of e.reply) (outcomes_in log))) lost

-- An event in which the packet crosses a cable.
carried : (nodes : List Node) (x : Packet) (m q : ℕ) (e : Event) (log : List Event) (end : State) →
    outcomes_for x.number (outcomes_of e.reply) ≡ 0 → times_in x.number (crossed_of e.reply) ≡ 1 →
    ahead nodes x ≡ ahead nodes (moved_to m q x) + 1 → Led nodes x → Led nodes (moved_to m q x) →
    Flight nodes (moved_to m q x) log end → Flight nodes x (e ∷ log) end
carried nodes x m q e log end out over fewer led Led-on (flies y has none) =
    flies y has (omega (arith, outcomes_append x.number (outcomes_of e.reply) (outcomes_in log)))
carried nodes x m q e log end out over fewer led Led-on (lands has one count on) =
    lands (has_append_right (outcomes_of e.reply) (outcomes_in log) (ended Delivered x.destination x) has)
    (omega (arith, outcomes_append x.number (outcomes_of e.reply) (outcomes_in log))) (omega arith) led
carried nodes x m q e log end out over fewer led Led-on (turns_back has one lost) = absurd (lost Led-on)

module _ (layout : Layout) (sound : Sound layout)
    (keeps : (s next : State) (call : Call) (reply : Reply) → Invariant layout s → Does layout s call reply next → Invariant layout next) where
  unused_run : (s end : State) (log : List Event) (k : ℕ) → Invariant layout s → Calm layout s → Run layout s log end → Quiet log →
      k ≤ s.last → Absent k s.packets → (outcomes_for k (outcomes_in log) ≡ 0) × (crossings k log ≡ 0)
  unused_run s end [] k inv calm ends quiet given none = (refl, refl)
  unused_run s end (e ∷ log) k inv calm (goes {next = next} {call = call} {reply = reply} does run) quiet given none =
      let change = calm_change layout sound s next call reply inv calm does quiet.0 in
      let first = unused_change layout sound s next reply k change given none in
      let later = unused_run next end log k (keeps s next call reply inv does) (calm_nodes layout s next (change_keeps_nodes layout s next reply change) calm)
      run quiet.1 first.given_out first.none_left in
      (omega (arith, outcomes_append k (outcomes_of reply) (outcomes_in log), first.none_ended, later.0), omega (arith, first.none_crossed, later.1))

  -- What a change does to one packet, given how each packet fares afterwards.
  flight_on : (s next end : State) (e : Event) (log : List Event) → Invariant layout s →
      Change layout s e.reply next → (x : Packet) → Has s.packets x →
      ((y : Packet) → Has next.packets y → Flight s.nodes y log end) →
      (x.number ≤ next.last → Absent x.number next.packets → (outcomes_for x.number (outcomes_in log) ≡ 0) × (crossings x.number log ≡ 0)) →
      Flight s.nodes x (e ∷ log) end
  flight_on s next end e log inv (idles idle) x has later gone =
      passed_by s.nodes x e log end (ap (outcomes_for x.number) idle.none_ended) (ap (times_in x.number) idle.none_crossed)
      (later x (subst (λ xs. Has xs x) (sym idle.same_packets) has))
  flight_on s next end e log inv (gains source destination word r f) x has later gone =
      passed_by s.nodes x e log end (ap (λ r. outcomes_for x.number (outcomes_of r)) r) (ap (λ r. times_in x.number (crossed_of r)) r)
      (later x (has_posted s next source destination word f x has))
  flight_on s next end e log inv (moves {counts} {outcomes} {crossed} {asked} how r) x has later gone =
      go (fared layout s.nodes step.sweeps inv.flying.numbers_rise x has)
    where
      k : ℕ
      k = x.number

      step : Stepped layout s counts outcomes crossed next
      step = stepped layout sound s next counts outcomes crossed asked how

      outs_are : outcomes_of e.reply ≡ outcomes
      outs_are = ap outcomes_of r

      crossed_are : crossed_of e.reply ≡ crossed
      crossed_are = ap crossed_of r

      go : Fared layout s.nodes x next.packets outcomes crossed → Flight s.nodes x (e ∷ log) end
      go (stayed why still t o) =
          passed_by s.nodes x e log end (ap (outcomes_for k) outs_are ∙ o) (ap (times_in k) crossed_are ∙ t) (later x still)
      go (went_on {others} {m} {q} why on t o) =
          let leads = crossing_leads layout sound s inv others x m q why in
          carried s.nodes x m q e log end (ap (outcomes_for k) outs_are ∙ o) (ap (times_in k) crossed_are ∙ t)
          leads.0 (inr (why.ports, why.count, why.entered)) leads.1 (later (moved_to m q x) on)
      go (was_delivered why out left t o) =
          let rest = gone (omega (arith, step.same_last, inv.flying.numbers_given x has)) left in
          let here : Has outcomes (ended Delivered x.destination x) = subst (λ n. Has outcomes (ended Delivered n x)) why.there out in
          let none : entry_at s x.node x.destination ≡ nothing = subst (λ y. entry_at s x.node y ≡ nothing) why.there (inv.routed.own_nothing x.node) in
          lands (has_append_left (outcomes_of e.reply) (outcomes_in log) (ended Delivered x.destination x) (subst (λ os. Has os (ended Delivered x.destination x)) (sym outs_are) here))
          (omega (arith, outcomes_append k (outcomes_of e.reply) (outcomes_in log), ap (outcomes_for k) outs_are, rest.0))
          (omega (arith, ap (times_in k) crossed_are, rest.1, ap count_in none)) (inl why.there)
      go (was_returned why out left t o) =
          let rest = gone (omega (arith, step.same_last, inv.flying.numbers_given x has)) left in
          turns_back (has_append_left (outcomes_of e.reply) (outcomes_in log) (ended Returned x.node x) (subst (λ os. Has os (ended Returned x.node x)) (sym outs_are) out))
          (omega (arith, outcomes_append k (outcomes_of e.reply) (outcomes_in log), ap (outcomes_for k) outs_are, rest.0))
          (strands_not_led s.nodes x why)

  pub flight : (s end : State) (log : List Event) → Invariant layout s → Calm layout s → Run layout s log end → Quiet log →
      (x : Packet) → Has s.packets x → Flight s.nodes x log end
  flight s end [] inv calm ends quiet x has = flies x has refl
  flight s end (e ∷ log) inv calm (goes {next = next} {call = call} {reply = reply} does run) quiet x has =
      let change = calm_change layout sound s next call reply inv calm does quiet.0 in
      let same = change_keeps_nodes layout s next reply change in
      let inv_next = keeps s next call reply inv does in
      let calm_next = calm_nodes layout s next same calm in
      flight_on s next end e log inv change x has
      (λ y in_next. subst (λ nodes. Flight nodes y log end) same (flight next end log inv_next calm_next run quiet.1 y in_next))
      (λ given none. unused_run next end log x.number inv_next calm_next run quiet.1 given none)
