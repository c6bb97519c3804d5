use Rattle.pagetext.proofs.ReadBack.{same_page}
use Rattle.pagetext.proofs.same_page_same_node.Goals as goal

pub returns : goal.returns
returns c = same_page
