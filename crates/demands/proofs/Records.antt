-- The theorem on records of demand 2.
use mathlib.Core.Path.{◌≡◌, refl}
use mathlib.Core.Bool.{Bool, false}
use mathlib.Core.List.{List}
use Prim.Native.Nat.{ℕ, ◌*◌, ◌≤◌}
use native.Mathlib.Omega.{arith}
use lib.Dec.{ltb}
use lib.ListN.{length}
use borrow.Author.Tests.{le-ltb}
use Rattle.plate_refusals.proofs.Refusals.{out_none}
use Rattle.record_parse.specs.Parse.{Parsed, early, late, plate, read_of}
use Rattle.record_roundtrip.proofs.There.{read_there, record_injective}
use Rattle.record_roundtrip.proofs.Exactly.{Numbered, read_exact, read_numbered}
use Rattle.record.specs.Reading.{head_of, read_refusal}
use Rattle.demands.specs.Records.{OneRecord, RecordRead}

-- what is read without a refusal is a plate, and there are places for it
pub record Accepted (P : Parsed) (out : ℕ) : Type 0 where
  pub new : Bool
  pub k : ℕ
  pub w : ℕ
  pub h : ℕ
  pub M : ℕ
  pub f : List ℕ
  pub is : P ≡ plate new k w h M f
  pub places : w * h ≤ out

accepted : (P : Parsed) (out : ℕ) → Numbered P → (head_of (read_refusal P out) P).refusal ≡ 0 → Accepted P out
accepted (early number) out l e = absurd (omega arith)
accepted (late number pixels) out l e = absurd (omega arith)
accepted (plate new k w h M f) out l e =
    record { new = new; k = k; w = w; h = h; M = M; f = f; is = refl; places = (out_none (w * h) out 0 e).0 }

pub one_record : OneRecord
one_record = record {
  back = λ s out work new k w h M f r.
      let z : ltb (length out) (w * h) ≡ false = le-ltb (length out) (w * h) r.places in
      let is : read_of s (length work) ≡ plate new k w h M f = rw r.bytes (read_there r.has.accepted new r.has.form (length work) r.space) in
      (rw (is, z), rw (is, z));
  only = λ s out work e.
      let a = accepted (read_of s (length work)) (length out) (read_numbered s (length work)) e in
      let x = read_exact s (length work) a.new a.k a.w a.h a.M a.f a.is in
      let read : RecordRead s out work a.new a.k a.w a.h a.M a.f = record {
        has = record { accepted = x.1.accepted; form = x.1.old };
        bytes = x.0;
        places = a.places;
        space = x.1.room;
      } in
      (a.new, (a.k, (a.w, (a.h, (a.M, (a.f, read))))));
  one = λ new new' k k' w w' h h' M M' f f' r r' e. record_injective r.accepted r'.accepted new new' r.form r'.form e;
}
