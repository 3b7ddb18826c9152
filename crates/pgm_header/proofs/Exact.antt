-- What a header says pins it: no two answers whose rasters begin within the file say the same.
use mathlib.Core.Path.{◌≡◌, ap}
use mathlib.Core.List.{List}
use Prim.Native.Nat.{ℕ, ◌≤◌}
use native.Mathlib.Omega.{arith}
use lib.ListN.{length, drop, length-drop}
use Rattle.std.proofs.Common.{Result, Ok, Err}
use Rattle.pgm_header.specs.Steps.{fault_number, header_of, RasterWithin}
use Rattle.pgm_header.specs.declared.Cursor.{Cursor}
use Rattle.pgm_header.specs.declared.HeaderFault.{HeaderFault}
use Rattle.pgm_header.specs.declared.HeaderFault.TheVariants.{Letters, GapOrNumber}
use Rattle.pgm_header.specs.declared.Header.{Header}

fault_exact : (f f' : HeaderFault) → fault_number f ≡ fault_number f' → f ≡ f'
fault_exact Letters Letters e = cc
fault_exact Letters GapOrNumber e = absurd (omega arith)
fault_exact GapOrNumber Letters e = absurd (omega arith)
fault_exact GapOrNumber GapOrNumber e = cc

module _ (file : List ℕ) where
  cursor_exact : (c c' : Cursor) → c.at ≤ length file → c'.at ≤ length file → drop c.at file ≡ drop c'.at file → c ≡ c'
  cursor_exact c c' l l' e =
      let same : c.at ≡ c'.at = omega (arith, length-drop c.at file, length-drop c'.at file, ap length e) in
      ap (λ (n : ℕ). record { at = n }) same

  pub header_exact : (r r' : Result Header HeaderFault) → header_of file r ≡ header_of file r' → RasterWithin file r → RasterWithin file r'
      → r ≡ r'
  header_exact (Ok h) (Ok h') e l l' =
      let left : drop h.raster.at file ≡ drop h'.raster.at file = cc in
      let same : h.raster ≡ h'.raster = cursor_exact h.raster h'.raster l l' left in
      let w : h.width ≡ h'.width = cc in
      let t : h.height ≡ h'.height = cc in
      let g : h.greatest ≡ h'.greatest = cc in
      ap Ok (λ i. record { width = w i; height = t i; greatest = g i; raster = same i })
  header_exact (Ok h) (Err f') e l l' = absurd (let z : ◌≡◌ {A = ℕ} 0 1 = cc in omega arith)
  header_exact (Err f) (Ok h') e l l' = absurd (let z : ◌≡◌ {A = ℕ} 0 1 = cc in omega arith)
  header_exact (Err f) (Err f') e l l' =
      let number : fault_number f ≡ fault_number f' = cc in
      ap Err (fault_exact f f' number)
