use Rattle.std.proofs.Common.{rules}
use Rattle.host.proofs.Landing.{landed}
use Rattle.host.proofs.Room.{short_answer, enough}
use Rattle.host.proofs.write_page.Goals as goal

pub returns : goal.returns
returns c =
    let did = rw c.narrow.ensures at c.page_of_file.ensures in
    let page = landed _ _ _ _ _ _ c.new-tray.ensures.filled c.new-tray.ensures.rest did in
    record {
      answer = page.answered;
      place = search rules;
      short = short_answer _ _ _ _ page.answered;
      enough = enough;
    }
