-- One step of laying a file's cables, and the table when all are laid.
use Rattle.std.proofs.Common.{◌≡◌, ℕ, suc, ◌+◌, ◌-◌, ◌<◌, ◌≤◌, List, ◌∷◌, None, Ok, Err, Option, Result, sym, ap, ◌∙◌, arith}
use Rattle.wiring.specs.Cables.{Table, bare}
use Rattle.wiring.specs.File.{nodes_said, cables_said, header_fault, cable_at, cables_from, lay, refused_or, on_ok, on_err, lay_all, read_table}
use Rattle.wiring.specs.declared.cable.Cable.{Cable}
use Rattle.fault.specs.declared.CableFault.{CableFault}
use Rattle.fault.specs.declared.HeaderFault.{HeaderFault}
use Rattle.fault.specs.declared.HeaderFault.TheVariants as header

module _ (bytes : List ℕ) (nodes : ℕ) where
  cables_more : (i k : ℕ) → i < k → cables_from bytes i (k - i) ≡ cable_at bytes i ∷ cables_from bytes (i + 1) (k - (i + 1))
  unfolding cables_from
  cables_more i k h = let e : k - i ≡ suc (k - (i + 1)) = omega arith in rw e

  -- the rest of the file, once cable i is laid
  rest : ℕ → ℕ → Result Table CableFault → Result Table CableFault
  rest i k r = on_ok r (λ ends. lay_all nodes (i + 1) ends (cables_from bytes (i + 1) (k - (i + 1))))

  lay_one : (i k : ℕ) (ends : Table) (c : Cable) → i < k → c ≡ cable_at bytes i → lay_all nodes i ends (cables_from bytes i (k - i)) ≡ rest i k (lay nodes i ends c)
  unfolding lay_all rest
  lay_one i k ends c h is = ap (lay_all nodes i ends) (cables_more i k h) ∙ ap (λ z. rest i k (lay nodes i ends z)) (sym is)

  pub lay_more : (i k : ℕ) (ends ends' : Table) (c : Cable) → i < k → c ≡ cable_at bytes i → lay nodes i ends c ≡ Ok ends' → lay_all nodes i ends (cables_from bytes i (k - i)) ≡ lay_all nodes (i + 1) ends' (cables_from bytes (i + 1) (k - (i + 1)))
  unfolding rest
  lay_more i k ends ends' c h is e = lay_one i k ends c h is ∙ ap (rest i k) e

  pub lay_stops : (i k : ℕ) (ends : Table) (f : CableFault) (c : Cable) → i < k → c ≡ cable_at bytes i → lay nodes i ends c ≡ Err f → lay_all nodes i ends (cables_from bytes i (k - i)) ≡ Err f
  unfolding rest
  lay_stops i k ends f c h is e = lay_one i k ends c h is ∙ ap (rest i k) e

  pub lay_done : (i k : ℕ) (ends : Table) → k ≤ i → lay_all nodes i ends (cables_from bytes i (k - i)) ≡ Ok ends
  unfolding lay_all cables_from
  lay_done i k ends h = let e : k - i ≡ 0 = omega arith in rw e

module _ (bytes : List ℕ) (good : header_fault bytes ≡ None) where
  by_cables : read_table bytes ≡ on_err (lay_all (nodes_said bytes) 0 bare (cables_from bytes 0 (cables_said bytes))) header.Cable
  by_cables = ap (λ (o : Option HeaderFault). on_ok (refused_or o bare) (λ start. on_err (lay_all (nodes_said bytes) 0 start (cables_from bytes 0 (cables_said bytes))) header.Cable)) good

  pub table_read : (ends : Table) → lay_all (nodes_said bytes) 0 bare (cables_from bytes 0 (cables_said bytes)) ≡ Ok ends → read_table bytes ≡ Ok ends
  table_read ends e = by_cables ∙ ap (λ r. on_err r header.Cable) e

  pub table_refused : (f : CableFault) → lay_all (nodes_said bytes) 0 bare (cables_from bytes 0 (cables_said bytes)) ≡ Err f → read_table bytes ≡ Err (header.Cable f)
  table_refused f e = by_cables ∙ ap (λ r. on_err r header.Cable) e
