-- A file is accepted exactly when it spells a wiring, and the wiring read is the one spelled.
use Rattle.std.proofs.Common.{◌≡◌, ℕ, ◌<◌, ◌≤◌, ◌⊎◌, List, [], ◌∷◌, length, Some, None, Ok, Err, Option, Result, sym, refl, ap, ◌∙◌, inl, inr, arith}
use Rattle.wiring.specs.Layout.{Layout, Sound}
use Rattle.wiring.specs.Cables.{Table, slot, bare, cabled}
use Rattle.wiring.specs.File.{nodes_said, cables_said, header_fault, cables_from, refused_or, on_ok, on_err, lay_all, read_table, read_file}
use Rattle.wiring.specs.Spells.{Joined, Apart, file_of, Spells, Spelling, Unspelled}
use Rattle.wiring.specs.declared.cable.Cable.{Cable}
use Rattle.fault.specs.declared.CableFault.{CableFault}
use Rattle.fault.specs.declared.HeaderFault.{HeaderFault}
use Rattle.fault.specs.declared.HeaderFault.TheVariants as header
use Rattle.fault.specs.declared.WallFault.{WallFault}
use Rattle.fault.specs.declared.WallFault.TheVariants as wall
use Rattle.wiring.specs.Sound.{none_is_not_some, same_layout}
use Rattle.wiring.proofs.Table.{at, bare_at, far_some, some_far}
use Rattle.wiring.proofs.Laying.{Laid, laid, accepted, clear_bare}
use Rattle.wiring.proofs.Bytes.{Headed, headed, no_fault, length_bytes, all_there, all_written, all_read}

-- Cables join both ways, and only ends in range on two nodes.
joined_back : (cs : List Cable) (x y : ℕ × ℕ) → Joined cs x y → Joined cs y x
joined_back [] x y j = j
joined_back (c ∷ cs) x y (inl (inl (a, b))) = inl (inr (b, a))
joined_back (c ∷ cs) x y (inl (inr (a, b))) = inl (inl (b, a))
joined_back (c ∷ cs) x y (inr j) = inr (joined_back cs x y j)

record Inside (nodes : ℕ) (x y : ℕ × ℕ) : Type 0 where
  node : x.0 < nodes
  port : x.1 < 4
  apart : y.0 ≡ x.0 → ⊥

joined_inside : (nodes : ℕ) (cs : List Cable) → Apart nodes cs → (x y : ℕ × ℕ) → Joined cs x y → Inside nodes x y
joined_inside nodes [] a x y j = absurd j
joined_inside nodes (c ∷ cs) a x y (inl (inl (s, e))) = record {
  node = rw (← s) a.0.start_node;
  port = rw (← s) a.0.start_port;
  apart = λ t. a.0.two_nodes (ap (λ z. z.0) s ∙ sym t ∙ sym (ap (λ z. z.0) e));
}
joined_inside nodes (c ∷ cs) a x y (inl (inr (s, e))) = record {
  node = rw (← s) a.0.end_node;
  port = rw (← s) a.0.end_port;
  apart = λ t. a.0.two_nodes (ap (λ z. z.0) e ∙ t ∙ sym (ap (λ z. z.0) s));
}
joined_inside nodes (c ∷ cs) a x y (inr j) = joined_inside nodes cs a.3 x y j

-- A wiring that a file spells keeps the facts.
pub spelled_sound : (bytes : List ℕ) (l : Layout) → Spells bytes l → Sound l
spelled_sound bytes l s = record {
  some_nodes = s.some_nodes;
  few_nodes = s.few_nodes;
  in_range = λ n p m q e. let i = joined_inside l.count s.cables s.apart (m, q) (n, p) (joined_back s.cables (n, p) (m, q) (s.leads n p m q e)) in (i.node, i.port);
  returns = λ n p m q e. s.led m q n p (joined_back s.cables (n, p) (m, q) (s.leads n p m q e));
  no_self = λ n p m q e same. (joined_inside l.count s.cables s.apart (n, p) (m, q) (s.leads n p m q e)).apart same;
}

-- Cables laid over the bare table lead where they join, and nowhere else.
module _ (nodes : ℕ) (few : nodes ≤ 64) (cs : List Cable) (ends : Table) (done : lay_all nodes 0 bare cs ≡ Ok ends) where
  all_laid : Laid nodes few bare cs ends
  all_laid = laid nodes few cs 0 bare ends refl done

  table_joins : (n p m q : ℕ) → (cabled nodes ends).far n p ≡ Some (m, q) → Joined cs (n, p) (m, q)
  table_joins n p m q e =
      let f = far_some nodes ends n p m q e in
      go (all_laid.leads (n, p) (m, q) f.1 f.2)
    where
      go : (at bare (n, p) ≡ Some (m, q)) ⊎ Joined cs (n, p) (m, q) → Joined cs (n, p) (m, q)
      go (inl e) = absurd (none_is_not_some (sym (bare_at (slot (n, p))) ∙ e))
      go (inr j) = j

  joins_table : (n p m q : ℕ) → Joined cs (n, p) (m, q) → (cabled nodes ends).far n p ≡ Some (m, q)
  joins_table n p m q j =
      let i = joined_inside nodes cs all_laid.apart (n, p) (m, q) j in
      some_far nodes ends n p m q i.node i.port (all_laid.led (n, p) (m, q) i.port (inr j))

-- A file that the reader accepts has a header without a fault, and cables that can be laid.
read_laid : (bytes : List ℕ) (ends : Table) → read_table bytes ≡ Ok ends → Headed bytes × (lay_all (nodes_said bytes) 0 bare (cables_from bytes 0 (cables_said bytes)) ≡ Ok ends)
read_laid bytes ends e = header_case (header_fault bytes) refl e
  where
    all : Table → Result Table CableFault
    all start = lay_all (nodes_said bytes) 0 start (cables_from bytes 0 (cables_said bytes))

    cable_case : (r : Result Table CableFault) → all bare ≡ r → on_err r header.Cable ≡ Ok ends → all bare ≡ Ok ends
    cable_case (Ok after) t e = t ∙ (let s : after ≡ ends = cc in ap Ok s)
    cable_case (Err f) t e = let z : ◌≡◌ {A = ℕ} 0 1 = cc in absurd (omega arith)

    header_case : (o : Option HeaderFault) → header_fault bytes ≡ o → on_ok (refused_or o bare) (λ start. on_err (all start) header.Cable) ≡ Ok ends → Headed bytes × (all bare ≡ Ok ends)
    header_case None t e = (headed bytes t, cable_case (all bare) refl e)
    header_case (Some f) t e = let z : ◌≡◌ {A = ℕ} 0 1 = cc in absurd (omega arith)

-- If the reader accepts a file, it spells the wiring that the reader gives.
pub read_spells : (bytes : List ℕ) (ends : Table) → read_table bytes ≡ Ok ends → Spells bytes (cabled (nodes_said bytes) ends)
read_spells bytes ends e =
    let cs : List Cable = cables_from bytes 0 (cables_said bytes) in
    let h = (read_laid bytes ends e).0 in
    let done = (read_laid bytes ends e).1 in
    record {
      cables = cs;
      written = all_written bytes h;
      some_nodes = h.some_nodes;
      few_nodes = h.few_nodes;
      few_cables = rw (all_there bytes 0 (cables_said bytes)) h.few_cables;
      apart = (all_laid (nodes_said bytes) h.few_nodes cs ends done).apart;
      leads = table_joins (nodes_said bytes) h.few_nodes cs ends done;
      led = joins_table (nodes_said bytes) h.few_nodes cs ends done;
    }

pub read_size : (bytes : List ℕ) (ends : Table) → read_table bytes ≡ Ok ends → length ends ≡ 256
read_size bytes ends e =
    let h = read_laid bytes ends e in
    (all_laid (nodes_said bytes) h.0.few_nodes (cables_from bytes 0 (cables_said bytes)) ends h.1).size

-- Two far ends are one if each is where the other is.
same_ends : (o u : Option (ℕ × ℕ)) → ((m q : ℕ) → o ≡ Some (m, q) → u ≡ Some (m, q)) → ((m q : ℕ) → u ≡ Some (m, q) → o ≡ Some (m, q)) → o ≡ u
same_ends None None f g = refl
same_ends None (Some y) f g = g y.0 y.1 refl
same_ends (Some x) u f g = sym (f x.0 x.1 refl)

-- A file that is written out is read cable by cable.
module _ (nodes : ℕ) (cs : List Cable) where
  headed_written : 1 ≤ nodes → nodes ≤ 64 → length cs ≤ 128 → Headed (file_of nodes cs)
  headed_written a b c = record { mark_0 = refl; mark_1 = refl; mark_2 = refl; version_high = refl; version_low = refl; some_nodes = a; few_nodes = b; few_cables = c; whole = omega (arith, length_bytes cs) }

  read_written : (ends : Table) → Headed (file_of nodes cs) → lay_all nodes 0 bare cs ≡ Ok ends → read_table (file_of nodes cs) ≡ Ok ends
  read_written ends h done =
      ap (λ o. on_ok (refused_or o bare) (λ start. on_err (lay_all nodes 0 start (cables_from (file_of nodes cs) 0 (length cs))) header.Cable)) (no_fault (file_of nodes cs) h)
      ∙ ap (λ ds. on_err (lay_all nodes 0 bare ds) header.Cable) (all_read nodes cs)
      ∙ ap (λ r. on_err r header.Cable) done

-- If a file spells a wiring, the reader accepts it, and gives that wiring.
pub spelled_read : (bytes : List ℕ) (l : Layout) → Spells bytes l → (ends : Table) × (read_table bytes ≡ Ok ends) × (cabled (nodes_said bytes) ends ≡ l)
spelled_read bytes l s =
    let few = s.few_nodes in
    let cs : List Cable = s.cables in
    let count : nodes_said bytes ≡ l.count = ap nodes_said s.written in
    let r = accepted l.count few cs 0 bare refl s.apart (clear_bare l.count few cs) in (
      r.0,
      ap read_table s.written ∙ read_written l.count cs r.0 (headed_written l.count cs s.some_nodes few s.few_cables) r.1,
      same_layout (cabled (nodes_said bytes) r.0) l count
          (λ n p. ap (λ k. (cabled k r.0).far n p) count ∙ same_ends ((cabled l.count r.0).far n p) (l.far n p)
          (λ m q e. s.led n p m q (table_joins l.count few cs r.0 r.1 n p m q e))
          (λ m q e. joins_table l.count few cs r.0 r.1 n p m q (s.leads n p m q e))),
    )

-- The reader accepts a file exactly when it spells a wiring, and gives the one wiring that it spells.
pub read_spelling : (bytes : List ℕ) (ends : Table) → read_table bytes ≡ Ok ends → Spelling bytes (cabled (nodes_said bytes) ends)
read_spelling bytes ends e = record {
  spells = read_spells bytes ends e;
  alone = λ k s.
      let r = spelled_read bytes k s in
      let same : r.0 ≡ ends = ok_one (sym r.1 ∙ e) in
      ap (cabled (nodes_said bytes)) (sym same) ∙ r.2;
}
  where
    ok_one : {a b : Table} → ◌≡◌ {A = Result Table HeaderFault} (Ok a) (Ok b) → a ≡ b
    ok_one e = cc

pub refused_unspelled : (bytes : List ℕ) (f : HeaderFault) → read_table bytes ≡ Err f → Unspelled bytes
refused_unspelled bytes f e l s = let r = spelled_read bytes l s in ok_err (sym r.1 ∙ e)
  where
    ok_err : {a : Table} {b : HeaderFault} → ◌≡◌ {A = Result Table HeaderFault} (Ok a) (Err b) → ⊥
    ok_err e = let z : ◌≡◌ {A = ℕ} 0 1 = cc in omega arith

-- The reader's answer for the whole file, from that for its table.
abbrev answer : List ℕ → Result Table HeaderFault → Result Layout WallFault
answer bytes r = on_err (on_ok r (λ ends. Ok (cabled (nodes_said bytes) ends))) wall.Header

pub file_read : (bytes : List ℕ) (ends : Table) → read_table bytes ≡ Ok ends → read_file bytes ≡ Ok (cabled (nodes_said bytes) ends)
file_read bytes ends e = ap (answer bytes) e

pub file_refused : (bytes : List ℕ) (f : HeaderFault) → read_table bytes ≡ Err f → read_file bytes ≡ Err (wall.Header f)
file_refused bytes f e = ap (answer bytes) e
