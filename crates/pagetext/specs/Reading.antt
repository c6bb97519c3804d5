-- A page read back: what its bytes say of a node.
use Rattle.std.specs.Prelude.{ℕ, zero, suc, ◌+◌, ◌-◌, ◌*◌, Bool, false, cond, ◌||◌, List, [], ◌∷◌, ◌++◌, map, drop, Some, None, Option, ◌==◌, slice_index, slice_index_or}
use Rattle.chooser.specs.PortSets.{ports_where}
use Rattle.chooser.specs.declared.ports.PortSet.{PortSet}
use Rattle.rules.specs.declared.Mark.{Mark}
use Rattle.rules.specs.declared.Mark.TheVariants.{Unmarked, Up, Down}
use Rattle.rules.specs.declared.Mode.{Mode}
use Rattle.rules.specs.declared.Mode.TheVariants.{New, Recovering, Serving}
use Rattle.rules.specs.State.{State, Node, node_of, entry_of}
use Rattle.wall.specs.Answers.{entry_pair}

-- What a page tells of a node

-- A mode without the slots that are left to a recovering node.
pub data Doing : Type 0 where
  new : Doing
  recovering : ℕ → Doing
  serving : ℕ → Doing

-- An entry with its destination.
pub record Line : Type 0 where
  pub destination : ℕ
  pub ports : PortSet
  pub count : ℕ

pub record Shown : Type 0 where
  pub node : ℕ
  pub doing : Doing
  -- the marks of the ports 0 to 3
  pub marks : List Mark
  -- the entries by rising destination
  pub table : List Line

abbrev pub doing_of : Mode → Doing
doing_of New = new
doing_of (Recovering root left) = recovering root
doing_of (Serving root) = serving root

abbrev pub four_marks : List Mark → List Mark
four_marks marks = slice_index_or marks 0 Unmarked ∷ slice_index_or marks 1 Unmarked ∷ slice_index_or marks 2 Unmarked ∷ slice_index_or marks 3 Unmarked ∷ []

abbrev pub listed_entry : ℕ → Option (PortSet × ℕ) → List Line
listed_entry d None = []
listed_entry d (Some e) = record { destination = d; ports = e.0; count = e.1 } ∷ []

-- The entries of a node for the destinations below k.
unfoldable pub listed : List Node → ℕ → ℕ → List Line
listed nodes node zero = []
listed nodes node (suc k) = listed nodes node k ++ listed_entry k (entry_pair (entry_of nodes node k))

-- What there is to tell of a node in a wall of so many nodes.
abbrev pub shown : ℕ → State → ℕ → Shown
shown count s node = record {
  node = node;
  doing = doing_of (node_of s.nodes node).mode;
  marks = four_marks (node_of s.nodes node).marks;
  table = listed s.nodes node count;
}

-- Bytes to lines of words

-- What was read so far: whole lines of words, the words of a line that goes on, and a word that goes on.
pub record Read : Type 0 where
  pub lines : List (List (List ℕ))
  pub words : List (List ℕ)
  pub word : List ℕ

abbrev pub unread : Read
unread = record { lines = []; words = []; word = [] }

-- A space ends a word, a line feed ends a word and its line.
abbrev pub read_byte : Read → ℕ → Read
read_byte r byte =
    cond (byte == 32) (record { lines = r.lines; words = r.words ++ (r.word ∷ []); word = [] })
    (cond (byte == 10) (record { lines = r.lines ++ ((r.words ++ (r.word ∷ [])) ∷ []); words = []; word = [] })
    (record { lines = r.lines; words = r.words; word = r.word ++ (byte ∷ []) }))

unfoldable pub read_bytes : Read → List ℕ → Read
read_bytes r [] = r
read_bytes r (byte ∷ bytes) = read_bytes (read_byte r byte) bytes

-- Words to what they mean

unfoldable pub number_from : ℕ → List ℕ → ℕ
number_from n [] = n
number_from n (digit ∷ digits) = number_from (10 * n + (digit - 48)) digits

abbrev pub word_of : List (List ℕ) → ℕ → List ℕ
word_of words i = slice_index_or words i []

abbrev pub number_of : List (List ℕ) → ℕ → ℕ
number_of words i = number_from 0 (word_of words i)

abbrev pub doing_said : ℕ → ℕ → Doing
doing_said letter root = cond (letter == 78) new (cond (letter == 82) (recovering root) (serving root))

abbrev pub mark_said : ℕ → Mark
mark_said letter = cond (letter == 117) Up (cond (letter == 100) Down Unmarked)

abbrev pub among : ℕ → List ℕ → Bool
among byte [] = false
among byte (b ∷ bs) = b == byte || among byte bs

abbrev pub ports_said : List ℕ → PortSet
ports_said digits = ports_where (λ p. among (48 + p) digits)

-- A line of an entry: TO destination PORT ports HOPS count.
abbrev pub line_said : List (List ℕ) → Line
line_said words = record { destination = number_of words 1; ports = ports_said (word_of words 3); count = number_of words 5 }

-- The first line: NODE node mode ROOT root MARK marks.
abbrev pub page_said : List (List (List ℕ)) → Shown
page_said lines = record {
  node = number_of (slice_index_or lines 0 []) 1;
  doing = doing_said (slice_index (word_of (slice_index_or lines 0 []) 2) 0) (number_of (slice_index_or lines 0 []) 4);
  marks = map mark_said (word_of (slice_index_or lines 0 []) 6);
  table = map line_said (drop 1 lines);
}

-- What a page says.
abbrev pub read_page : List ℕ → Shown
read_page bytes = page_said (read_bytes unread bytes).lines
