-- Laying cables over a table: when a cable is accepted, and what the table then has.
use Rattle.std.proofs.Common.{◌≡◌, ℕ, ◌+◌, ◌<◌, ◌≤◌, Bool, true, false, cond, eqb, leb, ◌⊎◌, List, [], ◌∷◌, length, is_some, is_ok, Some, None, Ok, Option, sym, refl, ap, ◌∙◌, inl, inr, ⊎_elim, arith}
use Rattle.std.proofs.lemmas.List.{length-set}
use Rattle.std.proofs.lemmas.Bool.{leb-false, lt-leb, eqb-false, ne_eqb}
use Rattle.wiring.specs.Layout.{Sound}
use Rattle.wiring.specs.Cables.{Table, slot, bare, join, cabled}
use Rattle.wiring.specs.File.{taken, problem, cable_fault, refused_or, on_ok, lay_all}
use Rattle.wiring.specs.Spells.{Between, Joined, Good, Free, Apart}
use Rattle.wiring.specs.declared.cable.Cable.{Cable}
use Rattle.fault.specs.declared.CableProblem.{CableProblem}
use Rattle.wiring.specs.Sound.{none_is_not_some}
use Rattle.wiring.proofs.Table.{at, far_some, some_far, Now, at_start, at_end, elsewhere, join_at, bare_at}

-- A cable can be laid: it is good, and both of its ends are bare.
pub record Fits (nodes : ℕ) (ends : Table) (c : Cable) : Type 0 where
  pub good : Good nodes c
  pub start_bare : at ends c.start ≡ None
  pub end_bare : at ends c.end ≡ None

pub cond_none : {A : Type 0} (b : Bool) (x : A) (y : Option A) → cond b (Some x) y ≡ None → (b ≡ false) × (y ≡ None)
cond_none true x y e = absurd (none_is_not_some (sym e))
cond_none false x y e = (refl, e)

bare_test : {A : Type 0} (o : Option A) → is_some o ≡ false → o ≡ None
bare_test None e = refl
bare_test (Some x) e = let z : ◌≡◌ {A = ℕ} 0 1 = cc in absurd (omega arith)

test_bare : {A : Type 0} (o : Option A) → o ≡ None → is_some o ≡ false
test_bare o e = rw e

module _ (nodes : ℕ) (ends : Table) (c : Cable) where
  pub fits : problem nodes ends c ≡ None → Fits nodes ends c
  fits e =
      let h₁ = cond_none (leb nodes c.start.0) _ _ e in
      let h₂ = cond_none (leb 4 c.start.1) _ _ h₁.1 in
      let h₃ = cond_none (leb nodes c.end.0) _ _ h₂.1 in
      let h₄ = cond_none (leb 4 c.end.1) _ _ h₃.1 in
      let h₅ = cond_none (eqb c.start.0 c.end.0) _ _ h₄.1 in
      let h₆ = cond_none (taken ends c.start) _ _ h₅.1 in
      let h₇ = cond_none (taken ends c.end) _ _ h₆.1 in
      record {
        good = record {
          start_node = leb-false nodes c.start.0 h₁.0;
          start_port = leb-false 4 c.start.1 h₂.0;
          end_node = leb-false nodes c.end.0 h₃.0;
          end_port = leb-false 4 c.end.1 h₄.0;
          two_nodes = eqb-false c.start.0 c.end.0 h₅.0;
        };
        start_bare = bare_test (at ends c.start) h₆.0;
        end_bare = bare_test (at ends c.end) h₇.0;
      }

  pub no_problem : Fits nodes ends c → problem nodes ends c ≡ None
  no_problem f =
      let g = f.good in
      rw (lt-leb nodes c.start.0 g.start_node, lt-leb 4 c.start.1 g.start_port, lt-leb nodes c.end.0 g.end_node, lt-leb 4 c.end.1 g.end_port, ne_eqb c.start.0 c.end.0 g.two_nodes, test_bare (at ends c.start) f.start_bare, test_bare (at ends c.end) f.end_bare)

pub unrefused : {A F : Type 0} (o : Option F) (x : A) → is_ok (refused_or o x) ≡ true → o ≡ None
unrefused None x e = refl
unrefused (Some f) x e = let z : ◌≡◌ {A = ℕ} 0 1 = cc in absurd (omega arith)

pub join_size : (ends : Table) (c : Cable) → length ends ≡ 256 → length (join ends c) ≡ 256
join_size ends c size = simp length-set size

module _ (nodes : ℕ) (few : nodes ≤ 64) where
  -- One cable more.
  module _ (ends : Table) (size : length ends ≡ 256) (c : Cable) (f : Fits nodes ends c) where
    pub leads_one : (x y : ℕ × ℕ) → x.1 < 4 → at (join ends c) x ≡ Some y → (at ends x ≡ Some y) ⊎ Between c x y
    leads_one x y h e = go (join_at nodes few ends c x f.good size h)
      where
        go : Now ends c x → (at ends x ≡ Some y) ⊎ Between c x y
        go (at_start s t) = inr (inl (s, cc))
        go (at_end s t) = inr (inr (s, cc))
        go (elsewhere s t u) = inl (sym u ∙ e)

    pub led_one : (x y : ℕ × ℕ) → x.1 < 4 → (at ends x ≡ Some y) ⊎ Between c x y → at (join ends c) x ≡ Some y
    led_one x y h e = go (join_at nodes few ends c x f.good size h) e
      where
        go : Now ends c x → (at ends x ≡ Some y) ⊎ Between c x y → at (join ends c) x ≡ Some y
        go (at_start s t) (inl e) = absurd (none_is_not_some (sym f.start_bare ∙ ap (at ends) s ∙ e))
        go (at_start s t) (inr (inl (a, b))) = t ∙ ap Some b
        go (at_start s t) (inr (inr (a, b))) = absurd (f.good.two_nodes (ap (λ z. z.0) (s ∙ sym a)))
        go (at_end s t) (inl e) = absurd (none_is_not_some (sym f.end_bare ∙ ap (at ends) s ∙ e))
        go (at_end s t) (inr (inl (a, b))) = absurd (f.good.two_nodes (ap (λ z. z.0) (a ∙ sym s)))
        go (at_end s t) (inr (inr (a, b))) = t ∙ ap Some b
        go (elsewhere s t u) (inl e) = u ∙ e
        go (elsewhere s t u) (inr (inl (a, b))) = absurd (s a)
        go (elsewhere s t u) (inr (inr (a, b))) = absurd (t a)

    pub stays_taken : (x : ℕ × ℕ) → x.1 < 4 → (at ends x ≡ None → ⊥) → at (join ends c) x ≡ None → ⊥
    stays_taken x h taken e = go (join_at nodes few ends c x f.good size h)
      where
        go : Now ends c x → ⊥
        go (at_start s t) = none_is_not_some (sym e ∙ t)
        go (at_end s t) = none_is_not_some (sym e ∙ t)
        go (elsewhere s t u) = taken (sym u ∙ e)

    pub stays_bare : (x : ℕ × ℕ) → x.1 < 4 → (x ≡ c.start → ⊥) → (x ≡ c.end → ⊥) → at ends x ≡ None → at (join ends c) x ≡ None
    stays_bare x h s t e = go (join_at nodes few ends c x f.good size h)
      where
        go : Now ends c x → at (join ends c) x ≡ None
        go (at_start a b) = absurd (s (sym a))
        go (at_end a b) = absurd (t (sym a))
        go (elsewhere a b u) = u ∙ e

  -- One cable more keeps the facts of a wiring: a far end is an old one, or the cable's.
  module _ (ends : Table) (size : length ends ≡ 256) (c : Cable) (f : Fits nodes ends c) (s : Sound (cabled nodes ends)) where
    in_range_one : (n p m q : ℕ) → (n < nodes) × (p < 4) × (at (join ends c) (n, p) ≡ Some (m, q)) → (m < nodes) × (q < 4)
    in_range_one n p m q h = go (leads_one ends size c f (n, p) (m, q) h.1 h.2)
      where
        go : (at ends (n, p) ≡ Some (m, q)) ⊎ Between c (n, p) (m, q) → (m < nodes) × (q < 4)
        go (inl e) = s.in_range n p m q (some_far nodes ends n p m q h.0 h.1 e)
        go (inr (inl (a, b))) = (rw b at f.good.end_node, rw b at f.good.end_port)
        go (inr (inr (a, b))) = (rw b at f.good.start_node, rw b at f.good.start_port)

    returns_one : (n p m q : ℕ) → (n < nodes) × (p < 4) × (at (join ends c) (n, p) ≡ Some (m, q)) → (cabled nodes (join ends c)).far m q ≡ Some (n, p)
    returns_one n p m q h =
        let r = in_range_one n p m q h in
        some_far nodes (join ends c) m q n p r.0 r.1 (led_one ends size c f (m, q) (n, p) r.1 (go (leads_one ends size c f (n, p) (m, q) h.1 h.2)))
      where
        go : (at ends (n, p) ≡ Some (m, q)) ⊎ Between c (n, p) (m, q) → (at ends (m, q) ≡ Some (n, p)) ⊎ Between c (m, q) (n, p)
        go (inl e) = inl (far_some nodes ends m q n p (s.returns n p m q (some_far nodes ends n p m q h.0 h.1 e))).2
        go (inr (inl (a, b))) = inr (inr (b, a))
        go (inr (inr (a, b))) = inr (inl (b, a))

    no_self_one : (n p m q : ℕ) → (n < nodes) × (p < 4) × (at (join ends c) (n, p) ≡ Some (m, q)) → m ≡ n → ⊥
    no_self_one n p m q h same = go (leads_one ends size c f (n, p) (m, q) h.1 h.2)
      where
        go : (at ends (n, p) ≡ Some (m, q)) ⊎ Between c (n, p) (m, q) → ⊥
        go (inl e) = s.no_self n p m q (some_far nodes ends n p m q h.0 h.1 e) same
        go (inr (inl (a, b))) = f.good.two_nodes (ap (λ z. z.0) a ∙ sym same ∙ sym (ap (λ z. z.0) b))
        go (inr (inr (a, b))) = f.good.two_nodes (ap (λ z. z.0) b ∙ same ∙ sym (ap (λ z. z.0) a))

    pub join_sound : Sound (cabled nodes (join ends c))
    join_sound = record {
      some_nodes = s.some_nodes;
      few_nodes = s.few_nodes;
      in_range = λ n p m q e. in_range_one n p m q (far_some nodes (join ends c) n p m q e);
      returns = λ n p m q e. returns_one n p m q (far_some nodes (join ends c) n p m q e);
      no_self = λ n p m q e. no_self_one n p m q (far_some nodes (join ends c) n p m q e);
    }

  -- What is known of cables that were laid one after another.
  pub record Laid (ends : Table) (cs : List Cable) (after : Table) : Type 0 where
    pub apart : Apart nodes cs
    pub free : (x : ℕ × ℕ) → x.1 < 4 → (at ends x ≡ None → ⊥) → Free cs x
    pub leads : (x y : ℕ × ℕ) → x.1 < 4 → at after x ≡ Some y → (at ends x ≡ Some y) ⊎ Joined cs x y
    pub led : (x y : ℕ × ℕ) → x.1 < 4 → (at ends x ≡ Some y) ⊎ Joined cs x y → at after x ≡ Some y
    pub size : length after ≡ 256

  laid_none : (ends : Table) → length ends ≡ 256 → Laid ends [] ends
  laid_none ends size = record { apart = tt; free = λ x h e. tt; leads = λ x y h e. inl e; led = λ x y h. led x y; size = size }
    where
      led : (x y : ℕ × ℕ) → (at ends x ≡ Some y) ⊎ ⊥ → at ends x ≡ Some y
      led x y (inl e) = e
      led x y (inr e) = absurd e

  laid_more : (ends after : Table) (c : Cable) (cs : List Cable) → length ends ≡ 256 → Fits nodes ends c → Laid (join ends c) cs after → Laid ends (c ∷ cs) after
  laid_more ends after c cs size f l =
      record {
        apart = (g, l.free c.start g.start_port (λ e. none_is_not_some (sym e ∙ led_one ends size c f c.start c.end g.start_port (inr (inl (refl, refl))))), l.free c.end g.end_port (λ e. none_is_not_some (sym e ∙ led_one ends size c f c.end c.start g.end_port (inr (inr (refl, refl))))), l.apart);
        free = λ x h e. (λ s. e (ap (at ends) (sym s) ∙ f.start_bare), λ s. e (ap (at ends) (sym s) ∙ f.end_bare), l.free x h (stays_taken ends size c f x h e));
        leads = λ x y h e. leads x y h (l.leads x y h e);
        led = λ x y h e. l.led x y h (led x y h e);
        size = l.size;
      }
    where
      g : Good nodes c
      g = f.good

      leads : (x y : ℕ × ℕ) → x.1 < 4 → (at (join ends c) x ≡ Some y) ⊎ Joined cs x y → (at ends x ≡ Some y) ⊎ Joined (c ∷ cs) x y
      leads x y h (inl e) = ⊎_elim inl (λ b. inr (inl b)) (leads_one ends size c f x y h e)
      leads x y h (inr j) = inr (inr j)

      led : (x y : ℕ × ℕ) → x.1 < 4 → (at ends x ≡ Some y) ⊎ Joined (c ∷ cs) x y → (at (join ends c) x ≡ Some y) ⊎ Joined cs x y
      led x y h (inl e) = inl (led_one ends size c f x y h (inl e))
      led x y h (inr (inl b)) = inl (led_one ends size c f x y h (inr b))
      led x y h (inr (inr j)) = inr j

  pub laid : (cs : List Cable) (i : ℕ) (ends after : Table) → length ends ≡ 256 → lay_all nodes i ends cs ≡ Ok after → Laid ends cs after
  unfolding lay_all
  laid [] i ends after size e = let s : ends ≡ after = cc in rw (← s) (laid_none ends size)
  laid (c ∷ cs) i ends after size e = go (problem nodes ends c) refl e (laid cs (i + 1) (join ends c) after (join_size ends c size))
    where
      go : (o : Option (CableProblem × ℕ)) → problem nodes ends c ≡ o → on_ok (refused_or (cable_fault i o) (join ends c)) (λ ends'. lay_all nodes (i + 1) ends' cs) ≡ Ok after → (lay_all nodes (i + 1) (join ends c) cs ≡ Ok after → Laid (join ends c) cs after) → Laid ends (c ∷ cs) after
      go (Some p) h e more = let z : ◌≡◌ {A = ℕ} 0 1 = cc in absurd (omega arith)
      go None h e more = laid_more ends after c cs size (fits nodes ends c h) (more e)

  -- Cables that are apart are accepted where their ends are bare.
  abbrev pub Clear : Table → List Cable → Type 0
  Clear ends [] = Unit {0}
  Clear ends (c ∷ cs) = (at ends c.start ≡ None) × (at ends c.end ≡ None) × Clear ends cs

  stays_clear : (ends : Table) (c : Cable) → length ends ≡ 256 → Fits nodes ends c → (cs : List Cable) → Apart nodes cs → Free cs c.start → Free cs c.end → Clear ends cs → Clear (join ends c) cs
  stays_clear ends c size f [] a s e k = tt
  stays_clear ends c size f (d ∷ cs) a s e k = (
    stays_bare ends size c f d.start a.0.start_port s.0 e.0 k.0,
    stays_bare ends size c f d.end a.0.end_port s.1 e.1 k.1,
    stays_clear ends c size f cs a.3 s.2 e.2 k.2,
  )

  pub accepted : (cs : List Cable) (i : ℕ) (ends : Table) → length ends ≡ 256 → Apart nodes cs → Clear ends cs → (after : Table) × (lay_all nodes i ends cs ≡ Ok after)
  unfolding lay_all
  accepted [] i ends size a k = (ends, refl)
  accepted (c ∷ cs) i ends size a k =
      let f : Fits nodes ends c = record { good = a.0; start_bare = k.0; end_bare = k.1 } in
      let r = accepted cs (i + 1) (join ends c) (join_size ends c size) a.3 (stays_clear ends c size f cs a.3 a.1 a.2 k.2) in
      (r.0, ap (λ o. on_ok (refused_or (cable_fault i o) (join ends c)) (λ ends'. lay_all nodes (i + 1) ends' cs)) (no_problem nodes ends c f) ∙ r.1)

  pub clear_bare : (cs : List Cable) → Clear bare cs
  clear_bare [] = tt
  clear_bare (c ∷ cs) = (bare_at (slot c.start), bare_at (slot c.end), clear_bare cs)
