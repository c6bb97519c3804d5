-- A line that grows by a port, a page that grows by an entry, and a wall's text that grows by a page.
use Rattle.std.proofs.Common.{◌≡◌, ℕ, zero, suc, ◌+◌, ◌*◌, ◌<◌, Bool, true, false, ◌||◌, leb, List, Ok, Err, Option, Result, sym, ap, ◌∙◌, add-one, arith}
use Rattle.wiring.specs.Layout.{Layout}
use Rattle.chooser.specs.declared.ports.PortSet.{PortSet}
use Rattle.tray.specs.declared.types.Tray.{Tray}
use Rattle.tray.specs.Filled.{filled}
use Rattle.rules.specs.declared.Refusal.{Refusal}
use Rattle.rules.specs.State.{State, Node, entry_of}
use Rattle.wall.specs.Answers.{checked, entry_pair, entry_answer}
use Rattle.page.specs.Sheet.{Writes}
use Rattle.pagetext.specs.Text.{with_port, with_ports, with_entry, with_entries, with_page, with_pages}
use Rattle.page.specs.Call.{Composed}
use Rattle.page.proofs.Writing.{writes_none, writes_more, writes_same}

-- The digits of the ports below k.
unfoldable pub first_ports : List ℕ → PortSet → ℕ → List ℕ
first_ports before ports zero = before
first_ports before ports (suc k) = with_port (first_ports before ports k) ports k

module _ (ports : PortSet) (a : Tray ℕ) where
  pub no_ports : Writes 0 (first_ports (filled a) ports 0) a a
  unfolding first_ports
  no_ports = writes_none a

  pub more_ports :
      (k : ℕ) (b c : Tray ℕ) →
      Writes k (first_ports (filled a) ports k) a b →
      Writes 1 (with_port (filled b) ports k) b c →
      Writes (k + 1) (first_ports (filled a) ports (k + 1)) a c
  unfolding first_ports
  more_ports k b c p q =
      writes_same (writes_more p q) (omega arith)
      (ap (λ text. with_port text ports k) p.text_is ∙ ap (λ n. first_ports (filled a) ports n) (sym (add-one k)))

  pub all_ports : (k : ℕ) (b : Tray ℕ) → k ≡ 4 → Writes k (first_ports (filled a) ports k) a b → Writes 4 (with_ports (filled a) ports) a b
  unfolding first_ports
  all_ports k b e p = writes_same p (omega arith) (ap (λ n. first_ports (filled a) ports n) e)

-- The value of an accepted question.
pub checked_value : {T : Type 0} (b : Bool) (x value : T) → Ok x ≡ checked b value → x ≡ value
checked_value true x value e = cc
checked_value false x value e = cc

module _ (nodes : List Node) (node : ℕ) (a : Tray ℕ) where
  pub no_entries : Writes 0 (with_entries (filled a) nodes node 0) a a
  unfolding with_entries
  no_entries = writes_none a

  pub more_entries :
      (layout : Layout) (k : ℕ) (entry : Option (PortSet × ℕ)) (b c : Tray ℕ) →
      Ok entry ≡ entry_answer layout node k (entry_of nodes node k) →
      Writes (25 * k) (with_entries (filled a) nodes node k) a b →
      Writes 25 (with_entry (filled b) k entry) b c →
      Writes (25 * (k + 1)) (with_entries (filled a) nodes node (k + 1)) a c
  unfolding with_entries
  more_entries layout k entry b c e p q =
      let same = checked_value (leb layout.count node || leb layout.count k) entry (entry_pair (entry_of nodes node k)) e in
      writes_same (writes_more p q) (omega arith)
      ((λ i. with_entry (p.text_is i) k (same i)) ∙ ap (λ n. with_entries (filled a) nodes node n) (sym (add-one k)))

module _ (count : ℕ) (s : State) (a : Tray ℕ) where
  pub no_pages : Writes 0 (with_pages (filled a) count s.nodes 0) a a
  unfolding with_pages
  no_pages = writes_none a

  pub more_pages :
      (k : ℕ) (r : Result (Unit {0}) Refusal) (b c : Tray ℕ) →
      k < count →
      Writes (1629 * k) (with_pages (filled a) count s.nodes k) a b →
      Composed count s k r b c →
      Writes (1629 * (k + 1)) (with_pages (filled a) count s.nodes (k + 1)) a c
  unfolding with_pages
  more_pages k (Ok done) b c h p q =
      writes_same (writes_more p q.1) (omega arith)
      (ap (λ text. with_page text count s.nodes k) p.text_is ∙ ap (λ n. with_pages (filled a) count s.nodes n) (sym (add-one k)))
  more_pages k (Err reason) b c h p q = absurd (omega (arith, q.1))
