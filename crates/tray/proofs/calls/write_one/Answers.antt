use Rattle.std.proofs.Common.{rules}
use Rattle.std.proofs.lemmas.List.{take_more_set, drop-set-lt, drop-drop}
use Rattle.tray.proofs.calls.write_one.Goals as goal

pub returns : goal.returns
returns g c = record {
  front = search (rules, take_more_set);
  back = simp drop-drop (search (rules, drop-set-lt));
}
