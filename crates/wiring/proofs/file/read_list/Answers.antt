use Rattle.std.proofs.Common.{sym, ◌∙◌}
use Rattle.std.proofs.lemmas.Result.{err_from_is_err_and}
use Rattle.wiring.specs.File.{nodes_said, cables_said}
use Rattle.wiring.proofs.Reading.{lay_more, lay_stops, lay_done, table_read, table_refused}
use Rattle.wiring.proofs.file.read_list.Goals as goal

pub returns-in_err-lay : goal.returns-in_err-lay
returns-in_err-lay c =
    let p = err_from_is_err_and c.from_residual-in_err-lay.result c.from_residual-in_err-lay.ensures.1 in
    let bytes = c.args.bytes.now in
    let stops = rw c.loop-index.invariant.0 at c.in_err-lay.ensures.ends in
    rw (p.1, p.2)
    (table_refused bytes c.in_ok-check_header.ensures _
    (sym c.loop-index.invariant.1
    ∙ lay_stops bytes (nodes_said bytes) c.loop-index.index (cables_said bytes) c.loop-index.list.ends _ c.cable_in.result c.loop-index-test.true c.cable_in.ensures stops))

pub loop-index-preserved : goal.loop-index-preserved
loop-index-preserved c =
    let bytes = c.args.bytes.now in
    let more = rw c.loop-index.invariant.0 at c.in_ok-lay.ensures.ends in (
      c.in_ok-lay.ensures.count ∙ c.loop-index.invariant.0,
      sym (lay_more bytes (nodes_said bytes) c.loop-index.index (cables_said bytes) c.loop-index.list.ends c.lay.new.self.ends c.cable_in.result c.loop-index-test.true c.cable_in.ensures more)
          ∙ c.loop-index.invariant.1,
    )

pub returns : goal.returns
returns c =
    let bytes = c.args.bytes.now in (
      c.loop-index.invariant.0,
      table_read bytes c.in_ok-check_header.ensures _
          (sym c.loop-index.invariant.1
          ∙ lay_done bytes (nodes_said bytes) c.loop-index.index (cables_said bytes) c.loop-index.list.ends c.loop-index-test.false),
    )
