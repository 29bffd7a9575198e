-- `spectrum::table_spectrum` meets its contract: the verdict, and on 0 the values and the working numbers. Assumes nothing.
use lib.ListN.{length}
use Rattle.table_checks.specs.Passed.{spectrum-passed}
use Rattle.spectrum.proofs.table_spectrum.Goals as goal

pub put_shifts-requires : goal.put_shifts-requires
put_shifts-requires c =
    let a = c.args in
    let p = spectrum-passed a.n a.k a.block_type a.table.now (length a.values.now) (length a.working.now) _
    c.spectrum_verdict-v.ensures c.if-v-ne0.false in
    (p.entries, p.inputs, p.values, p.working)
