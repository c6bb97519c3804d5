-- What a cable list means.
use Rattle.wiring.specs.Layout.{Layout}
use Rattle.wiring.specs.Cables.{cabled}
use Rattle.wiring.specs.declared.cables.CableList.{CableList}

abbrev pub wired : CableList → Layout
wired l = cabled l.count l.ends
