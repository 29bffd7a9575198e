-- `region_work::put_region` meets its contract. It calls itself; the measure is the number of the region's free inputs, of which a half
-- has one fewer. Assumes nothing.
use Rattle.block.specs.Overlaps.{free_inputs}
use Rattle.region_work.proofs.+put_region.Given as goal

abbrev pub decreases-put_region : goal.decreases-put_region
decreases-put_region l = free_inputs l.n l.q
