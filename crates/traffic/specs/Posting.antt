-- What a post answers and leaves behind, on the code's values.
use Rattle.std.specs.Prelude.{◌≡◌, ℕ, Bool, ◌||◌, None, Ok, Err, Option, Result, ◌==◌, nat_le}
use Rattle.wiring.specs.Layout.{Layout}
use Rattle.rules.specs.declared.Refusal.{Refusal}
use Rattle.rules.specs.declared.Refusal.TheVariants.{NodeOutOfRange, SameNode, SourceNotServing, NoEntry, WallFull, NumbersUsedUp}
use Rattle.rules.specs.State.{node_of, entry_of}
use Rattle.rules.specs.Slot.{is_nothing}
use Rattle.rules.specs.Calls.{refuse_if, not_serving, most_packets, last_number}
use Rattle.rules.specs.Runs.{Reply, refused, numbered, post, Does}
use Rattle.board.specs.declared.types.Board.{Board}
use Rattle.board.specs.View.{nodes_view}
use Rattle.traffic.specs.declared.types.Flight.{Flight}
use Rattle.traffic.specs.View.{state}

-- The answer of a post as a reply: the packet's number, or the refusal.
abbrev pub post_reply : Result ℕ Refusal → Reply
post_reply (Ok number) = numbered number
post_reply (Err reason) = refused reason

-- The reason of the first check of a post that fails.
abbrev pub first_reason : Bool → Bool → Bool → Bool → Bool → Bool → Option Refusal
first_reason outside same idle unled full used-up =
    refuse_if outside NodeOutOfRange
    (refuse_if same SameNode
    (refuse_if idle SourceNotServing
    (refuse_if unled NoEntry
    (refuse_if full WallFull
    (refuse_if used-up NumbersUsedUp None)))))

-- Why a post is turned down, or that it is not.
abbrev pub why_not : Board → Flight → ℕ → ℕ → Option Refusal
why_not board flight source destination =
    first_reason (nat_le board.count source || nat_le board.count destination) (source == destination)
    (not_serving (node_of (nodes_view board) source).mode) (is_nothing (entry_of (nodes_view board) source destination))
    (nat_le most_packets flight.count) (nat_le last_number flight.last)

-- The call does what the rules say of a post, on every wall with these nodes.
abbrev pub Posts : Board → ℕ → ℕ → ℕ → Flight → Result ℕ Refusal → Flight → Type 0
Posts board source destination word before answer after =
    (layout : Layout) (owner : ℕ) → layout.count ≡ board.count →
    Does layout (state board owner before) (post source destination word) (post_reply answer) (state board owner after)
