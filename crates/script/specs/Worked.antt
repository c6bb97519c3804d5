-- Lines, and what they say.
use Rattle.std.specs.Prelude.{◌≡◌, [], ◌∷◌, Some, None, codes}
use Rattle.script.specs.declared.line.Call.TheVariants.{Cut, Slot, Post, Step}
use Rattle.script.specs.declared.line.Picker.TheVariants.{Round}
use Rattle.script.specs.declared.line.Question.TheVariants.{Entry, Calm}
use Rattle.script.specs.Lines.{meaning_of, once_call, blank, mesh, cables, chooser, make, ask}

-- Blanks, comments and calls.
abbrev pub WorkedCalls : Type 0
WorkedCalls =
    (meaning_of (codes "") ≡ Some blank)
    × (meaning_of (codes "  # only a comment") ≡ Some blank)
    × (meaning_of (codes "cut 0 1") ≡ Some (make (once_call (Cut 0 1))))
    × (meaning_of (codes " cut  300 4294967295  # out of range") ≡ Some (make (once_call (Cut 300 4294967295))))
    × (meaning_of (codes "slot") ≡ Some (make (once_call Slot)))
    × (meaning_of (codes "slot 65535") ≡ Some (make (record { call = Slot; times = 65535 })))
    × (meaning_of (codes "post 0 3 009") ≡ Some (make (once_call (Post 0 3 9))))
    × (meaning_of (codes "step") ≡ Some (make (once_call (Step 256))))
    × (meaning_of (codes "step 2") ≡ Some (make (once_call (Step 2))))

-- Wirings, choosers and questions.
abbrev pub WorkedOthers : Type 0
WorkedOthers =
    (meaning_of (codes "mesh 2 2") ≡ Some (mesh 2 2))
    × (meaning_of (codes "cables 54574c0001010A") ≡ Some (cables (84 ∷ 87 ∷ 76 ∷ 0 ∷ 1 ∷ 1 ∷ 10 ∷ [])))
    × (meaning_of (codes "cables") ≡ Some (cables []))
    × (meaning_of (codes "chooser round") ≡ Some (chooser Round))
    × (meaning_of (codes "entry 0 3") ≡ Some (ask (Entry 0 3)))
    × (meaning_of (codes "calm") ≡ Some (ask Calm))

-- Lines that cannot be read.
abbrev pub WorkedRefusals : Type 0
WorkedRefusals =
    (meaning_of (codes "Cut 0 1") ≡ None)
    × (meaning_of (codes "cut 0") ≡ None)
    × (meaning_of (codes "cut 0 1 2") ≡ None)
    × (meaning_of (codes "cut 0 -1") ≡ None)
    × (meaning_of (codes "cut 0 4294967296") ≡ None)
    × (meaning_of (codes "slot 65536") ≡ None)
    × (meaning_of (codes "cables 54574") ≡ None)
    × (meaning_of (codes "cables 5457 4c") ≡ None)
    × (meaning_of (codes "cables 5g") ≡ None)
    × (meaning_of (codes "chooser") ≡ None)
    × (meaning_of (codes "calm 1") ≡ None)
