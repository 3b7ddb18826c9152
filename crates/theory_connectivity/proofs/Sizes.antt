-- What sizes that fit say, as orders.
use mathlib.Core.Path.{◌≡◌, refl}
use mathlib.Core.Bool.{true, ◌&&◌}
use Prim.Native.Nat.{ℕ, ◌*◌, ◌≤◌}
use native.Mathlib.Nat.{mul-le-mul}
use lib.Dec.{T, leb, leb→le}
use Rattle.meaning.specs.Plate.{byte_greatest, greatest_fits, grid_fits, max_greatest, max_pixels, max_extent}
use Rattle.theory_lists.proofs.Tests.{passes, tests}

-- a width or a height that fits
pub record Extent (s : ℕ) : Type 0 where
  pub least : 1 ≤ s
  pub most : s ≤ max_extent

pub extent_is : (s : ℕ) → (leb 1 s && leb s max_extent) ≡ true → Extent s
extent_is s e =
    let t : T (leb 1 s && leb s max_extent) = passes e in
    record { least = leb→le 1 s (search tests); most = leb→le s max_extent (search tests) }

-- a width, a height and pixels that fit
pub record Sizes (w h : ℕ) : Type 0 where
  pub wide : Extent w
  pub high : Extent h
  pub some-pixels : 1 ≤ w * h
  pub few_pixels : w * h ≤ max_pixels

pub grid_sizes : (w h : ℕ) → grid_fits w h ≡ true → Sizes w h
unfolding grid_fits
grid_sizes w h e =
    let t : T (grid_fits w h) = passes e in
    let a : Extent w = record { least = leb→le 1 w (search tests); most = leb→le w max_extent (search tests) } in
    let b : Extent h = record { least = leb→le 1 h (search tests); most = leb→le h max_extent (search tests) } in
    record {
      wide = a;
      high = b;
      some-pixels = mul-le-mul {n₁ = 1} {m₁ = 1} {n₂ = w} {m₂ = h} a.least b.least;
      few_pixels = leb→le (w * h) max_pixels (search tests);
    }

-- a greatest grey that fits
pub record Range (M : ℕ) : Type 0 where
  pub least : 1 ≤ M
  pub most : M ≤ max_greatest

pub greatest_range : (M : ℕ) → greatest_fits M ≡ true → Range M
unfolding greatest_fits
greatest_range M e =
    let t : T (greatest_fits M) = passes e in
    record { least = leb→le 1 M (search tests); most = leb→le M max_greatest (search tests) }

-- that of a byte does
pub byte_range : greatest_fits byte_greatest ≡ true
unfolding greatest_fits
byte_range = refl

-- the product of the width and the height
pub product : (w h : ℕ) → Extent w → Extent h → w * h ≤ max_extent * max_extent
product w h a b = mul-le-mul {n₁ = w} {m₁ = h} {n₂ = max_extent} {m₂ = max_extent} a.most b.most
