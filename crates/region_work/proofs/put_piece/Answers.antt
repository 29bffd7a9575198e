-- `region_work::put_piece` meets its contract: below the limit the row is stored at the list's end. Assumes nothing.
use mathlib.Core.Path.{refl}
use native.Mathlib.Omega.{arith}
use Rattle.region_work.specs.Put.{put_one, put_full}
use Rattle.region_work.proofs.put_piece.Goals as goal

pub returns-then-count-ge-GIVEN_ROWS : goal.returns-then-count-ge-GIVEN_ROWS
returns-then-count-ge-GIVEN_ROWS c = put_full _ _ _ _ _ c.if-count-ge-GIVEN_ROWS.true

pub returns : goal.returns
returns c = put_one _ _ _ _ _ _ _ _ c.requires (omega arith) refl refl refl
