-- The checks of a post, and the two ways that it ends.
use Rattle.std.proofs.Common.{◌≡◌, ℕ, ◌+◌, ◌<◌, MatchOption, Bool, true, false, ◌||◌, eqb, leb, List, length, take, set, Some, None, Option, Result, Err, sym, refl, ap, ◌∙◌, subst, arith}
use Rattle.std.proofs.lemmas.Bool.{leb-false, or_parts}
use Rattle.std.proofs.lemmas.List.{take_more_set}
use Rattle.wiring.specs.Layout.{Layout}
use Rattle.rules.specs.declared.Packet.{Packet}
use Rattle.rules.specs.declared.Refusal.{Refusal}
use Rattle.rules.specs.declared.Refusal.TheVariants.{NodeOutOfRange}
use Rattle.rules.specs.State.{State, node_of, entry_of}
use Rattle.rules.specs.Slot.{is_nothing}
use Rattle.rules.specs.Calls.{refuse_if, outside, not_serving, most_packets, last_number, post_refused, after_post}
use Rattle.rules.specs.Runs.{numbered, post, Does, posts}
use Rattle.board.specs.declared.types.Board.{Board}
use Rattle.board.specs.View.{nodes_view}
use Rattle.traffic.specs.declared.types.Flight.{Flight}
use Rattle.traffic.specs.Posting.{post_reply, first_reason, why_not}
use Rattle.traffic.specs.View.{packets_view, state}
use Rattle.traffic.proofs.Standing.{in_flight}

-- Two checks with one reason are one.
one_check : (a b : Bool) (reason : Refusal) (later : Option Refusal) →
    refuse_if a reason (refuse_if b reason later) ≡ refuse_if (a || b) reason later
one_check true b reason later = refl
one_check false b reason later = refl

not_none : (reason : Refusal) → None ≡ Some reason → ⊥
not_none reason e = let z : ◌≡◌ {A = ℕ} 0 1 = cc in omega arith

passes : (a b c d e f : Bool) → None ≡ first_reason a b c d e f → (a ≡ false) × (e ≡ false) × (f ≡ false)
passes true b c d e f h = absurd (not_none _ h)
passes false true c d e f h = absurd (not_none _ h)
passes false false true d e f h = absurd (not_none _ h)
passes false false false true e f h = absurd (not_none _ h)
passes false false false false true f h = absurd (not_none _ h)
passes false false false false false true h = absurd (not_none _ h)
passes false false false false false false h = (refl, refl, refl)

module _ (board : Board) (flight : Flight) (source destination : ℕ) where
  -- What a post finds that is not turned down.
  pub room_for_post : None ≡ why_not board flight source destination →
      (source < board.count) × (flight.count < 256) × (flight.last < 4294967295)
  room_for_post h =
      let passed = passes (leb board.count source || leb board.count destination) (eqb source destination)
      (not_serving (node_of (nodes_view board) source).mode) (is_nothing (entry_of (nodes_view board) source destination))
      (leb most_packets flight.count) (leb last_number flight.last) h in (
        leb-false board.count source (or_parts (leb board.count source) (leb board.count destination) passed.0).0,
        leb-false most_packets flight.count passed.1,
        leb-false last_number flight.last passed.2,
      )

  pub turned_room : (turned : Option Refusal) → turned ≡ why_not board flight source destination →
      MatchOption turned ((source < board.count) × (flight.count < 256) × (flight.last < 4294967295)) (λ reason. reason ≡ reason)
  turned_room None e = room_for_post e
  turned_room (Some reason) e = refl

  abbrev checks : ℕ → ℕ → Option Refusal
  checks nodes packets =
      first_reason (leb nodes source || leb nodes destination) (eqb source destination)
      (not_serving (node_of (nodes_view board) source).mode) (is_nothing (entry_of (nodes_view board) source destination))
      (leb most_packets packets) (leb last_number flight.last)

  pub refused_by : (layout : Layout) (owner : ℕ) → layout.count ≡ board.count →
      post_refused layout (state board owner flight) source destination ≡ why_not board flight source destination
  unfolding post_refused
  refused_by layout owner same =
      one_check (outside layout source) (outside layout destination) NodeOutOfRange _
      ∙ ap (λ (n : ℕ). checks n (length (packets_view flight))) same
      ∙ ap (checks board.count) (in_flight flight)

module _ (board : Board) (flight : Flight) (source destination word : ℕ) (layout : Layout) (owner : ℕ) (same : layout.count ≡ board.count) where
  pub post_turned_down : (reason : Refusal) (answer : Result ℕ Refusal) → why_not board flight source destination ≡ Some reason → answer ≡ Err reason →
      Does layout (state board owner flight) (post source destination word) (post_reply answer) (state board owner flight)
  post_turned_down reason answer e is =
      subst (λ (a : Result ℕ Refusal). Does layout (state board owner flight) (post source destination word) (post_reply a) (state board owner flight)) (sym is)
      (posts (rw (refused_by board flight source destination layout owner same ∙ e) (refl, refl)))

  abbrev posted_packet : Packet
  posted_packet = record {
    number = flight.last + 1;
    source = source;
    destination = destination;
    word = word;
    node = source;
    standing = None;
  }

  abbrev after_with : List Packet → State
  after_with packets = record { nodes = nodes_view board; owner = owner; last = flight.last + 1; packets = packets }

  pub post_done : why_not board flight source destination ≡ None → flight.count < length flight.places →
      Does layout (state board owner flight) (post source destination word) (numbered (flight.last + 1))
      (after_with (take (flight.count + 1) (set flight.places flight.count posted_packet)))
  unfolding after_post
  post_done e room =
      posts (rw (refused_by board flight source destination layout owner same ∙ e)
      (refl, ap after_with (take_more_set flight.places flight.count posted_packet room)))
