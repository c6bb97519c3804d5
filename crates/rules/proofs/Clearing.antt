-- Clearing: in a calm wall every step with packets in flight takes one off the work that is left,
-- the cables ahead of the packets and one more for each.
use Rattle.std.proofs.Common.{◌≡◌, ℕ, ◌+◌, ◌*◌, ◌<◌, ◌≤◌, cond, ◌⊎◌, List, [], ◌∷◌, length, sym, refl, ap, subst, inl, inr, suc-mul, arith}
use Rattle.std.proofs.lemmas.List.{nil_from_length}
use Rattle.std.proofs.lemmas.Bool.{cases_lt}
use Rattle.wiring.specs.Layout.{Layout, Sound}
use Rattle.rules.specs.declared.Outcome.{Outcome}
use Rattle.rules.specs.declared.Packet.{Packet}
use Rattle.rules.specs.State.{Node, State, Entry, nothing, entry, entry_of}
use Rattle.rules.specs.Runs.{Call, Reply, Does, Event, Run, ends, goes}
use Rattle.rules.specs.Promise.{Calm, Quiet, is_step, is_post, steps_in, posts_in}
use Rattle.rules.proofs.Invariant.{Invariant}
use Rattle.rules.proofs.Sweep.{Sweeps, swept, waiting, moving, arriving, stranding, Stepped, stepped}
use Rattle.rules.proofs.Progress.{progress_step}
use Rattle.rules.proofs.CalmRuns.{Change, idles, gains, moves, calm_change, change_keeps_nodes, calm_nodes}
use Rattle.rules.proofs.Flight.{count_in, ahead, crossing_leads}

abbrev pub work : List Node → List Packet → ℕ
work nodes [] = 0
work nodes (x ∷ xs) = ahead nodes x + 1 + work nodes xs

module _ (layout : Layout) (sound : Sound layout) (s : State) (inv : Invariant layout s) where
  ahead_below : (x : Packet) → ahead s.nodes x < layout.count
  ahead_below x = go (entry_of s.nodes x.node x.destination) refl
    where
      go : (e : Entry) → entry_of s.nodes x.node x.destination ≡ e → ahead s.nodes x < layout.count
      go nothing is = omega (arith, ap count_in is, sound.some_nodes)
      go (entry ports count) is = omega (arith, ap count_in is, inv.routed.entry_count x.node x.destination ports count is)

  pub work_below : (xs : List Packet) → work s.nodes xs ≤ length xs * layout.count
  work_below [] = omega arith
  work_below (x ∷ xs) = omega (arith, ahead_below x, work_below xs, suc-mul (length xs) layout.count)

  -- A sweep takes one off for each crossing and each outcome.
  pub sweep_work : {front old left : List Packet} {outs : List Outcome} {crossed : List ℕ} →
      Sweeps layout s.nodes front old left outs crossed →
      work s.nodes left + length crossed + length outs ≤ work s.nodes old
  sweep_work swept = omega arith
  sweep_work (waiting why sweeps) = omega (arith, sweep_work sweeps)
  sweep_work (moving {front} {old} {x = x} {m = m} {q = q} why sweeps) =
      omega (arith, sweep_work sweeps, (crossing_leads layout sound s inv _ x m q why).0)
  sweep_work (arriving why sweeps) = omega (arith, sweep_work sweeps)
  sweep_work (stranding why sweeps) = omega (arith, sweep_work sweeps)

-- Without work there are no packets.
work_none : (nodes : List Node) (xs : List Packet) → work nodes xs ≤ 0 → xs ≡ []
work_none nodes [] none = refl
work_none nodes (x ∷ xs) none = absurd (omega arith)

module _ (layout : Layout) (sound : Sound layout)
    (keeps : (s next : State) (call : Call) (reply : Reply) → Invariant layout s → Does layout s call reply next → Invariant layout next) where
  -- An event of a run without posts takes a step's share off the work.
  event_work : (s next : State) (call : Call) (reply : Reply) → Invariant layout s → Calm layout s → Change layout s reply next →
      cond {A = ℕ} (is_post (record { call = call; reply = reply })) 1 0 ≡ 0 →
      (rest : ℕ) → work s.nodes s.packets ≤ cond {A = ℕ} (is_step (record { call = call; reply = reply })) 1 0 + rest →
      work s.nodes next.packets ≤ rest
  event_work s next call reply inv calm (idles idle) no_post rest few =
      omega (arith, few, ap (work s.nodes) idle.same_packets, ap (λ b. cond {A = ℕ} b 1 0) (idle.no_step call))
  event_work s next call reply inv calm (gains source destination word e f) no_post rest few =
      absurd (omega (arith, no_post, ap (λ r. cond {A = ℕ} (is_post (record { call = call; reply = r })) 1 0) e))
  event_work s next call reply inv calm (moves {counts} {outcomes} {crossed} {asked} how e) no_post rest few =
      go (cases_lt 0 (length s.packets))
    where
      step : Stepped layout s counts outcomes crossed next
      step = stepped layout sound s next counts outcomes crossed asked how

      falls : work s.nodes next.packets + length crossed + length outcomes ≤ work s.nodes s.packets
      falls = sweep_work layout sound s inv step.sweeps

      one : cond {A = ℕ} (is_step (record { call = call; reply = reply })) 1 0 ≡ 1
      one = ap (λ r. cond {A = ℕ} (is_step (record { call = call; reply = r })) 1 0) e

      go : (0 < length s.packets) ⊎ (length s.packets ≤ 0) → work s.nodes next.packets ≤ rest
      go (inl some) =
          omega (arith, few, falls, one, step.moved_count, step.ended_count, progress_step layout sound s next counts outcomes crossed asked inv calm some how)
      go (inr none) =
          let nil : s.packets ≡ [] = nil_from_length s.packets (omega arith) in
          omega (arith, falls, ap (work s.nodes) nil)

  clears : (s end : State) (log : List Event) → Invariant layout s → Calm layout s → Run layout s log end → Quiet log →
      posts_in log ≡ 0 → work s.nodes s.packets ≤ steps_in log → end.packets ≡ []
  clears s end [] inv calm ends quiet no_post few = work_none s.nodes s.packets few
  clears s end (e ∷ log) inv calm (goes {next = next} {call = call} {reply = reply} does run) quiet no_post few =
      let change = calm_change layout sound s next call reply inv calm does quiet.0 in
      let same = change_keeps_nodes layout s next reply change in
      let fewer = event_work s next call reply inv calm change (omega arith) (steps_in log) few in
      clears next end log (keeps s next call reply inv does) (calm_nodes layout s next same calm) run quiet.1 (omega arith)
      (subst (λ nodes. work nodes next.packets ≤ steps_in log) (sym same) fewer)

  pub clearing : (s : State) → Invariant layout s → Calm layout s → (log : List Event) (end : State) → Run layout s log end → Quiet log →
      posts_in log ≡ 0 → length s.packets * layout.count ≤ steps_in log → end.packets ≡ []
  clearing s inv calm log end run quiet no_post enough =
      clears s end log inv calm run quiet no_post (omega (arith, enough, work_below layout sound s inv s.packets))
