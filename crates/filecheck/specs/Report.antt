-- What is printed of a wall file.
use Rattle.std.specs.Prelude.{ℕ, zero, suc, List, [], ◌++◌, Some, None, Ok, Err, codes, decimal, Option, Result, String, string_bytes}
use Rattle.wiring.specs.Layout.{Layout}
use Rattle.wiring.specs.Listing.{cable_count}
use Rattle.fault.specs.Words.{fault_text}
use Rattle.fault.specs.declared.WallFault.{WallFault}

-- Where a port leads.
abbrev pub lead_text : Option (ℕ × ℕ) → List ℕ
lead_text None = codes "nothing"
lead_text (Some end) = codes "node " ++ (decimal end.0 ++ (codes " port " ++ decimal end.1))

-- A line for each node.
abbrev pub line_text : ℕ → (north east south west : Option (ℕ × ℕ)) → List ℕ
line_text n north east south west =
    codes "node " ++ (decimal n
    ++ (codes ": port 0 to " ++ (lead_text north
    ++ (codes ", port 1 to " ++ (lead_text east
    ++ (codes ", port 2 to " ++ (lead_text south
    ++ (codes ", port 3 to " ++ (lead_text west ++ codes "\n")))))))))

abbrev pub node_line : Layout → ℕ → List ℕ
node_line l n = line_text n (l.far n 0) (l.far n 1) (l.far n 2) (l.far n 3)

unfoldable pub lines_below : Layout → ℕ → List ℕ
lines_below l zero = []
lines_below l (suc k) = lines_below l k ++ node_line l k

-- A good file: the counts, then the nodes.
abbrev pub report_text : Layout → List ℕ
report_text l =
    (codes "nodes " ++ (decimal l.count ++ (codes ", cables " ++ (decimal (cable_count l) ++ codes "\n"))))
    ++ lines_below l l.count

-- What is said of a file, good or refused.
abbrev pub said : {A : Type 0} → Result (String A) (String A) → List ℕ
said (Ok text) = string_bytes text
said (Err text) = string_bytes text

-- A good file and a refused one.
abbrev pub verdict_text : Result Layout WallFault → List ℕ
verdict_text (Ok l) = report_text l
verdict_text (Err f) = codes "refused: " ++ (fault_text f ++ codes "\n")
