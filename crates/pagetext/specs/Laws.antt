-- What a page is good for: it can be read back.
use Rattle.std.specs.Prelude.{◌≡◌, ℕ, ◌<◌, Some, None, decimal, Option}
use Rattle.chooser.specs.declared.ports.PortSet.{PortSet}
use Rattle.rules.specs.declared.Mode.{Mode}
use Rattle.rules.specs.declared.Mode.TheVariants.{New, Recovering, Serving}
use Rattle.rules.specs.State.{State, node_of, entry_of}
use Rattle.wall.specs.Answers.{entry_pair}
use Rattle.pagetext.specs.Text.{numeral, page_text}
use Rattle.pagetext.specs.Reading.{doing_of, four_marks, shown, read_page}

-- The numbers on pages are written as decimals.
abbrev pub DecimalLaw : Type 0
DecimalLaw = (n : ℕ) → n < 100000 → numeral n ≡ decimal n

-- The numbers of a node are bytes, as they are in every wall.
abbrev pub ByteRoot : Mode → Type 0
ByteRoot New = Unit {0}
ByteRoot (Recovering root left) = root < 256
ByteRoot (Serving root) = root < 256

abbrev pub ByteCount : Option (PortSet × ℕ) → Type 0
ByteCount None = Unit {0}
ByteCount (Some e) = e.1 < 256

pub record InBytes (count : ℕ) (s : State) (node : ℕ) : Type 0 where
  pub few_nodes : count < 256
  pub node_byte : node < 256
  pub root_byte : ByteRoot (node_of s.nodes node).mode
  pub count_bytes : (d : ℕ) → d < count → ByteCount (entry_pair (entry_of s.nodes node d))

-- A page says just what there is to tell of its node.
abbrev pub ReadBackLaw : Type 0
ReadBackLaw = (count : ℕ) (s : State) (node : ℕ) → InBytes count s node → read_page (page_text count s node) ≡ shown count s node

-- Two nodes with the same page have the same number, mode and root, marks and entries. Only the slots left to a
-- recovering node may differ.
pub record Agree (count : ℕ) (s : State) (node : ℕ) (s' : State) (node' : ℕ) : Type 0 where
  pub nodes : node ≡ node'
  pub modes : doing_of (node_of s.nodes node).mode ≡ doing_of (node_of s'.nodes node').mode
  pub marks : four_marks (node_of s.nodes node).marks ≡ four_marks (node_of s'.nodes node').marks
  pub entries : (d : ℕ) → d < count → entry_pair (entry_of s.nodes node d) ≡ entry_pair (entry_of s'.nodes node' d)

abbrev pub SamePageLaw : Type 0
SamePageLaw =
    (count : ℕ) (s : State) (node : ℕ) (s' : State) (node' : ℕ) →
    InBytes count s node →
    InBytes count s' node' →
    page_text count s node ≡ page_text count s' node' →
    Agree count s node s' node'
