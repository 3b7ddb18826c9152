-- Whether bytes are a record, from whether they begin with it.
use mathlib.Core.Path.{◌≡◌, refl, sym, ◌∙◌}
use mathlib.Core.Bool.{Bool, true, false, ◌&&◌}
use mathlib.Core.List.{List, [], ◌∷◌}
use Prim.Native.Nat.{ℕ}
use lib.Dec.{eqb, eqb-zero-suc, eqb-suc-suc}
use lib.ListN.{length}
use Rattle.record_varint.specs.Field.{starts}
use Rattle.record_parse.specs.Parse.{same_bytes}

-- bytes that begin with the record are the record where they are as many
pub starts-same : (xs s : List ℕ) → starts xs s ≡ true → same_bytes s xs ≡ eqb (length xs) (length s)
unfolding starts same_bytes
starts-same [] [] e = refl
starts-same [] (b ∷ s) e = sym (eqb-zero-suc (length s))
starts-same (x ∷ xs) [] e = cc
starts-same (x ∷ xs) (b ∷ s) e = go (eqb b x) e (starts-same xs s) ∙ sym (eqb-suc-suc (length xs) (length s))
  where
    go : (first : Bool) → (first && starts xs s) ≡ true → (starts xs s ≡ true → same_bytes s xs ≡ eqb (length xs) (length s))
        → (first && same_bytes s xs) ≡ eqb (length xs) (length s)
    go true e rest = rest e
    go false e rest = cc

-- bytes that do not begin with the record are not the record
pub starts_differ : (xs s : List ℕ) → starts xs s ≡ false → same_bytes s xs ≡ false
unfolding starts same_bytes
starts_differ [] s e = cc
starts_differ (x ∷ xs) [] e = refl
starts_differ (x ∷ xs) (b ∷ s) e = go (eqb b x) e (starts_differ xs s)
  where
    go : (first : Bool) → (first && starts xs s) ≡ false → (starts xs s ≡ false → same_bytes s xs ≡ false) → (first && same_bytes s xs) ≡ false
    go true e rest = rest e
    go false e rest = refl
