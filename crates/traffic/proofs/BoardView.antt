-- Reading the view of a board.
use Rattle.std.proofs.Common.{◌≡◌, ℕ, zero, suc, ltb, List, [], ◌∷◌, map, length, get_or, take, sym, refl, ap, ◌∙◌, is_some, Some, None, Option, MatchOption, IfSome, Bor, arith}
use Rattle.std.proofs.lemmas.List.{get_or-map, get_or_past, length-map}
use Rattle.std.proofs.lemmas.Bool.{ltb-true, ltb-false}
use Rattle.rules.specs.State.{node_of, absent}
use Rattle.board.specs.declared.types.Board.{Board}
use Rattle.board.specs.declared.types.Node.{Node}
use Rattle.board.specs.View.{node_view, nodes_view}

-- A reading commutes with a map, in range or not.
pub getD_of_map : {X Y : Type 0} (f : X → Y) (xs : List X) (i : ℕ) (d : X) → get_or (map f xs) i (f d) ≡ f (get_or xs i d)
getD_of_map f [] i d = refl
getD_of_map f (x ∷ xs) zero d = refl
getD_of_map f (x ∷ xs) (suc i) d = getD_of_map f xs i d

-- What a reading of the records finds, or that it finds none, is what stands in their view.
pub node_found : (b : Board) (n : ℕ) (o : Option (Bor Node)) → is_some o ≡ ltb n (length (take b.count b.nodes)) →
    IfSome o (λ m. m.now ≡ get_or (take b.count b.nodes) n m.now) →
    MatchOption o (node_of (nodes_view b) n ≡ absent) (λ m. node_of (nodes_view b) n ≡ node_view b.count m.now)
unfolding nodes_view
node_found b n None there is =
    get_or_past (map (node_view b.count) (take b.count b.nodes)) n absent
    (omega (arith, length-map (take b.count b.nodes) (node_view b.count), ltb-false n (length (take b.count b.nodes)) (sym there)))
node_found b n (Some m) there is =
    get_or-map (node_view b.count) (take b.count b.nodes) n m.now absent (ltb-true n (length (take b.count b.nodes)) (sym there))
    ∙ ap (node_view b.count) (sym is)
