-- Whole boards: what a loop over all records, or one that gathers from them, comes to.
use Rattle.std.proofs.Common.{◌≡◌, ℕ, zero, suc, ◌<◌, ◌≤◌, ◌⊎◌, List, [], ◌∷◌, map, length, get_or, take, replicate, refl, sym, ap, ◌∙◌, inl, inr, arith}
use mathlib.Core.Path.{fun_ext}
use lib.ListN
use lib.ListN.{length-map, get_or-eq_default}
use Rattle.std.proofs.lemmas.List.{length-take-le, get_or-replicate, get_or_past}
use Rattle.std.proofs.lemmas.List.FromFn.{fill_by_all}
use Rattle.std.proofs.lemmas.Bool.{cases_lt}
use Rattle.rules.specs.declared.Mark.{Mark}
use Rattle.rules.specs.declared.Mark.TheVariants.{Unmarked}
use Rattle.rules.specs.Ports.{table}
use Rattle.rules.specs.State as rules
use Rattle.rules.proofs.Views.{view_table}
use Rattle.flood.specs.View.{marks_view}
use Rattle.board.specs.declared.types.Board.{Board}
use Rattle.board.specs.View.{node_view, nodes_view}
use Rattle.board.proofs.Records.{no_node, no_node_view, node_read}

pub view_length : (b : Board) → length (nodes_view b) ≡ b.count
unfolding nodes_view
view_length b = length-map (take b.count b.nodes) (node_view b.count) ∙ length-take-le b.count b.nodes (let few = b.count_few in let long = b.nodes_long in omega arith)

-- Past the last node there is nothing.
pub node_past : (b : Board) (n : ℕ) → b.count ≤ n → rules.node_of (nodes_view b) n ≡ rules.absent
node_past b n h = get_or_past (nodes_view b) n rules.absent (let e = view_length b in omega arith)

-- Every record is what a function of its number says: a table.
pub board_at : (b : Board) (count : ℕ) (f : ℕ → rules.Node) → b.count ≡ count →
    ((k : ℕ) → k < count → node_view count (get_or b.nodes k no_node) ≡ f k) → nodes_view b ≡ table count f
unfolding nodes_view
board_at b count f same each =
    ap (λ (n : ℕ). map (node_view n) (take n b.nodes)) same
    ∙ view_table (node_view count) no_node rules.absent (no_node_view count) b.nodes count f
    (let few = b.count_few in let long = b.nodes_long in omega arith) each

-- Every record of a board was written.
pub board_table : (b after : Board) (f : ℕ → rules.Node) → after.count ≡ b.count →
    ((k : ℕ) → k < b.count → node_view b.count (get_or after.nodes k no_node) ≡ f k) → nodes_view after ≡ table b.count f
board_table b after f same each = board_at after b.count f same each

-- A list through a function is the table of its values.
pub map_table : {X Y : Type 0} (f : X → Y) (xs : List X) (n : ℕ) (d : X) → length xs ≡ n → map f xs ≡ table n (λ k. f (get_or xs k d))
unfolding table
map_table f xs n d long =
    fill_by_all (λ k. f (get_or xs k d)) (map f xs) n (f d) (length-map xs f ∙ long) (λ k h. ListN.get_or-map f xs k d)

-- An array of one value has it everywhere.
pub all_none : {X : Type 0} (x : X) (k : ℕ) → get_or (replicate 64 x) k x ≡ x
all_none x k = elim (cases_lt k 64) [ inl h ↦ get_or-replicate 64 k x x h | inr h ↦ get_or_past (replicate 64 x) k x h ]

-- What stands within a list does not depend on what a read past its end gives.
pub other_default : {X : Type 0} (xs : List X) (k : ℕ) (d e : X) → k < length xs → get_or xs k d ≡ get_or xs k e
other_default [] k d e h = absurd (omega arith)
other_default (x ∷ xs) zero d e h = refl
other_default (x ∷ xs) (suc k) d e h = other_default xs k d e (omega arith)

row_unmarked : (p : ℕ) → get_or (replicate 4 Unmarked) p Unmarked ≡ Unmarked
row_unmarked p = elim (cases_lt p 4) [ inl h ↦ get_or-replicate 4 p Unmarked Unmarked h | inr h ↦ get_or_past (replicate 4 Unmarked) p Unmarked h ]

-- A row of marks past the end of the array has none, whatever such a read gives.
pub row_of : (marks : List (List Mark)) (n p : ℕ) → get_or (get_or marks n []) p Unmarked ≡ get_or (get_or marks n (replicate 4 Unmarked)) p Unmarked
row_of marks n p = go (cases_lt n (length marks))
  where
    go : (n < length marks) ⊎ (length marks ≤ n) → get_or (get_or marks n []) p Unmarked ≡ get_or (get_or marks n (replicate 4 Unmarked)) p Unmarked
    go (inl h) = ap (λ (xs : List Mark). get_or xs p Unmarked) (other_default marks n [] (replicate 4 Unmarked) h)
    go (inr h) = ap (λ (xs : List Mark). get_or xs p Unmarked) (get_or_past marks n [] h)
        ∙ sym (ap (λ (xs : List Mark). get_or xs p Unmarked) (get_or_past marks n (replicate 4 Unmarked) h) ∙ row_unmarked p)

-- A row without a mark, read past the end or not.
pub no_marks : (marks : List (List Mark)) (k : ℕ) → get_or marks k (replicate 4 Unmarked) ≡ replicate 4 Unmarked → (p : ℕ) → get_or (get_or marks k []) p Unmarked ≡ Unmarked
no_marks marks k none p = row_of marks k p ∙ ap (λ (xs : List Mark). get_or xs p Unmarked) none ∙ row_unmarked p

-- Nothing is marked in the array that such marks start from.
pub unmarked : (k p : ℕ) → get_or (get_or (replicate 64 (replicate 4 Unmarked)) k []) p Unmarked ≡ Unmarked
unmarked k p = no_marks (replicate 64 (replicate 4 Unmarked)) k (all_none (replicate 4 Unmarked) k) p

-- An array of marks gathered from the records, and unmarked past the last node.
pub marks_gathered : (b : Board) (marks : List (List Mark)) (f : rules.Node → ℕ → Mark) → ((p : ℕ) → f rules.absent p ≡ Unmarked) →
    ((k : ℕ) → k < b.count → (p : ℕ) → get_or (get_or marks k []) p Unmarked ≡ f (node_view b.count (get_or b.nodes k no_node)) p) →
    ((k : ℕ) → b.count ≤ k → (p : ℕ) → get_or (get_or marks k []) p Unmarked ≡ Unmarked) →
    marks_view marks ≡ (λ n p. f (rules.node_of (nodes_view b) n) p)
marks_gathered b marks f none below past = fun_ext (λ n. fun_ext (λ p. go n p (cases_lt n b.count)))
  where
    go : (n p : ℕ) → (n < b.count) ⊎ (b.count ≤ n) → get_or (get_or marks n []) p Unmarked ≡ f (rules.node_of (nodes_view b) n) p
    go n p (inl h) = below n h p ∙ ap (λ (x : rules.Node). f x p) (sym (node_read b n h))
    go n p (inr h) = past n h p ∙ sym (none p) ∙ ap (λ (x : rules.Node). f x p) (sym (node_past b n h))

-- Two lists of one length that read alike at one default read alike at any.
pub same_at : {X : Type 0} (xs ys : List X) (k : ℕ) (d e : X) → length ys ≡ length xs → get_or xs k e ≡ get_or ys k e → get_or xs k d ≡ get_or ys k d
same_at xs ys k d e long same = elim (cases_lt k (length xs)) [
  | inl h ↦ other_default xs k d e h ∙ same ∙ sym (other_default ys k d e (omega (arith, long, h)))
  | inr h ↦ get_or_past xs k d h ∙ sym (get_or_past ys k d (omega (arith, long, h)))
]
