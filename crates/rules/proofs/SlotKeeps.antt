-- A slot keeps the invariant. A silent slot and a member's slot go straight from the state before;
-- a root's slot goes as a member's from the state in which the root's recovery has begun.
use Rattle.std.proofs.Common.{◌≡◌, ℕ, Bool, true, false, refl, arith}
use Rattle.wiring.specs.Layout.{Layout, Sound}
use Rattle.rules.specs.declared.Act.{Act}
use Rattle.rules.specs.declared.Act.TheVariants.{Silent, Root, Member}
use Rattle.rules.specs.declared.Mode.{Mode}
use Rattle.rules.specs.declared.Mode.TheVariants.{New, Recovering, Serving}
use Rattle.rules.specs.Ports.{Ports}
use Rattle.rules.specs.State.{State}
use Rattle.rules.specs.Flood.{Cell, waiting, wrote, cell_of}
use Rattle.rules.specs.Slot.{act_of, slot}
use Rattle.rules.proofs.Invariant.{mode_at, hand_at, Shaped, Cabled, Ordered, Routed, Flying, Invariant}
use Rattle.rules.proofs.SlotReads.{act_now, cells_of, none_heard, enlisting, enlisting_shaped, Ticked, silent_ticks, member_ticks, root_ticks}
use Rattle.rules.proofs.SlotShaped.{shaped_ticked, cabled_ticked}
use Rattle.rules.proofs.SlotModed.{Loose, loosen, recovering_acts, moded_ticked}
use Rattle.rules.proofs.SlotOrdered.{ordered_ticked}
use Rattle.rules.proofs.SlotRouted.{Told, routed_ticked}
use Rattle.rules.proofs.SlotFlying.{flying_ticked}
use Rattle.rules.proofs.Walks.{way_recovers}
use Rattle.rules.proofs.Telling.{telling}
use Rattle.rules.proofs.Enlisting.{enlisting_cabled, enlisting_loose, enlisting_ordered, enlisting_routed, enlisting_flying, enlisting_speaks}

-- The end of a slot keeps what held before it.
ticked_keeps : (layout : Layout) (sound : Sound layout) (s after : State) (cell : ℕ → Cell) → Ticked layout s after cell →
    Shaped layout s → Cabled layout s → Loose layout s → Ordered layout s → Routed layout s → Flying layout s → Told layout s cell → Invariant layout after
ticked_keeps layout sound s after cell ticked shaped cabled loose ordered routed flying told = record {
  shaped = shaped_ticked layout sound s after cell ticked shaped;
  cabled = cabled_ticked layout sound s after cell ticked cabled;
  moded = moded_ticked layout sound s after cell ticked loose;
  ordered = ordered_ticked layout sound s after cell ticked ordered;
  routed = routed_ticked layout sound s after cell ticked shaped cabled loose told routed;
  flying = flying_ticked layout s after cell ticked shaped told flying;
}

-- Acts

member_recovers : (mode : Mode) (hand : Bool) → act_of mode hand ≡ Member → (root : ℕ) × (left : ℕ) × (mode ≡ Recovering root left)
member_recovers New true act = absurd (let z : ◌≡◌ {A = ℕ} 0 1 = cc in omega arith)
member_recovers New false act = absurd (let z : ◌≡◌ {A = ℕ} 0 1 = cc in omega arith)
member_recovers (Recovering root left) hand act = (root, left, refl)
member_recovers (Serving root) true act = absurd (let z : ◌≡◌ {A = ℕ} 0 1 = cc in omega arith)
member_recovers (Serving root) false act = absurd (let z : ◌≡◌ {A = ℕ} 0 1 = cc in omega arith)

-- In a silent slot nobody is told anything, and nobody recovers that is joined to the owner.
silence : (layout : Layout) (s : State) → Loose layout s → act_now s ≡ Silent → Told layout s none_heard
silence layout s loose act = record {
  told_other = λ n ports c e. absurd (unheard ports c e);
  told_empty = λ n ports c e. absurd (unheard ports c e);
  told_count = λ n ports c e. absurd (unheard ports c e);
  told_port = λ n ports c e. absurd (unheard ports c e);
  told_mode = λ n ports c e. absurd (unheard ports c e);
  told_marked = λ n ports c p e h. absurd (unheard ports c e);
  told_by = λ n ports c p m q e h cable. absurd (unheard ports c e);
  told_inside = λ n ports c e. absurd (unheard ports c e);
  told_all = λ n root left k mode way other down.
      absurd (owner_idle root left (way_recovers root left (λ a p b q cable on e. loose.recovers_both a p b q root left cable on e) way mode));
}
  where
    unheard : (ports : Ports) (c : ℕ) → waiting ≡ wrote ports c → ⊥
    unheard ports c e = let z : ◌≡◌ {A = ℕ} 0 1 = cc in omega arith

    owner_idle : (root left : ℕ) → mode_at s s.owner ≡ Recovering root left → ⊥
    owner_idle root left e =
        let member = recovering_acts (mode_at s s.owner) (hand_at s s.owner) root left e in
        let z : ◌≡◌ {A = ℕ} 0 1 = cc in omega arith

pub slot_keeps : (layout : Layout) (sound : Sound layout) (s : State) → Invariant layout s → Invariant layout (slot layout s).after
slot_keeps layout sound s inv = go (act_now s) refl
  where
    loose : Loose layout s
    loose = loosen layout s inv.moded

    go : (act : Act) → act_now s ≡ act → Invariant layout (slot layout s).after
    go Silent act =
        ticked_keeps layout sound s (slot layout s).after none_heard (silent_ticks layout s inv.shaped act)
        inv.shaped inv.cabled loose inv.ordered inv.routed inv.flying (silence layout s loose act)
    go Root act =
        ticked_keeps layout sound (enlisting layout s) (slot layout s).after (cell_of (cells_of layout (enlisting layout s))) (root_ticks layout s inv.shaped act)
        (enlisting_shaped layout s inv.shaped) (enlisting_cabled layout sound s inv act) (enlisting_loose layout sound s inv act)
        (enlisting_ordered layout sound s inv act) (enlisting_routed layout sound s inv act) (enlisting_flying layout sound s inv act)
        (telling layout sound (enlisting layout s) (enlisting_shaped layout s inv.shaped) (enlisting_loose layout sound s inv act) (enlisting_routed layout sound s inv act)
        s.owner layout.count (enlisting_speaks layout sound s inv act) (enlisting_cabled layout sound s inv act) (enlisting_ordered layout sound s inv act))
    go Member act =
        let (root, left, speaks) = member_recovers (mode_at s s.owner) (hand_at s s.owner) act in
        ticked_keeps layout sound s (slot layout s).after (cell_of (cells_of layout s)) (member_ticks layout s inv.shaped act)
        inv.shaped inv.cabled loose inv.ordered inv.routed inv.flying
        (telling layout sound s inv.shaped loose inv.routed root left speaks inv.cabled inv.ordered)
