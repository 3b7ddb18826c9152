-- `pgm_write::put_raster` meets its contract: one byte a pixel, or two.
use mathlib.Core.Path.{ap}
use native.Mathlib.Omega.{arith}
use lib.ListN.{length}
use Rattle.pgm_write.proofs.Rasters.{bytes_low, byte_pairs-length, raster_bytes_lem, raster_pairs}
use Rattle.pgm_write.proofs.put_raster.Goals as goal

pub put_bytes-requires : goal.put_bytes-requires
put_bytes-requires c =
    let one = c.if-pixel_bytes-eq1.true in
    record {
      image_in_bounds = omega (arith, c.requires.image_in_bounds, ap length (raster_bytes_lem c.args.greatest c.args.image.now c.pixel_bytes.ensures one));
      image_value = bytes_low c.args.greatest c.args.image.now c.pixel_bytes.ensures one c.requires.image_value;
    }

pub returns-then-pixel_bytes-eq1 : goal.returns-then-pixel_bytes-eq1
returns-then-pixel_bytes-eq1 c =
    rw (raster_bytes_lem c.args.greatest c.args.image.now c.pixel_bytes.ensures c.if-pixel_bytes-eq1.true) c.put_bytes.ensures

pub put_pairs-requires : goal.put_pairs-requires
put_pairs-requires c =
    let image = c.args.image.now in
    let e = raster_pairs c.args.greatest image c.pixel_bytes.ensures c.if-pixel_bytes-eq1.false in
    omega (arith, c.requires.image_in_bounds, ap length e, byte_pairs-length image)

pub returns-else-pixel_bytes-eq1 : goal.returns-else-pixel_bytes-eq1
returns-else-pixel_bytes-eq1 c =
    rw (raster_pairs c.args.greatest c.args.image.now c.pixel_bytes.ensures c.if-pixel_bytes-eq1.false) c.put_pairs.ensures
