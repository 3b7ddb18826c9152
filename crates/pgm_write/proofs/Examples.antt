-- Plate files, and what writing them answers, computed from the definitions.
use mathlib.Core.Path.{◌≡◌, refl}
use mathlib.Core.List.{[], ◌∷◌}
use Rattle.meaning.specs.Plate.{byte_greatest}
use Rattle.pgm.specs.Text.{bytes}
use Rattle.pgm_write.specs.Writing.{pgm_of, refused_write, write_pgm}

-- the plate of SPECIFICATION 10; one and five digits; a raster that looks like a header; M of 1, and the last with one byte a pixel
pub one_byte_files : pgm_of 4 3 byte_greatest (10 ∷ 10 ∷ 10 ∷ 10 ∷ 10 ∷ 50 ∷ 30 ∷ 10 ∷ 10 ∷ 10 ∷ 10 ∷ 90 ∷ []) ∷ pgm_of 1 1 1 (0 ∷ [])
    ∷ pgm_of 32768 512 100 [] ∷ pgm_of 2 1 byte_greatest (35 ∷ 10 ∷ []) ∷ pgm_of 10 1 254 (48 ∷ 49 ∷ 50 ∷ 51 ∷ 52 ∷ 53 ∷ 54 ∷ 55 ∷ 56 ∷ 57 ∷ []) ∷ []
    ≡ bytes "P5\n4 3\n255\n\n\n\n\n\n2\u{1e}\n\n\n\nZ" ∷ bytes "P5\n1 1\n1\n\0"
    ∷ bytes "P5\n32768 512\n100\n" ∷ bytes "P5\n2 1\n255\n#\n" ∷ bytes "P5\n10 1\n254\n0123456789" ∷ []
unfolding pgm_of bytes
one_byte_files = refl

-- two bytes a pixel, the high byte first: from 256 on
pub two_byte_files : pgm_of 3 1 256 (1 ∷ 256 ∷ 255 ∷ []) ∷ pgm_of 2 2 65535 (65535 ∷ 0 ∷ 24930 ∷ 10 ∷ []) ∷ pgm_of 1 1 1000 (1000 ∷ []) ∷ []
    ≡ bytes "P5\n3 1\n256\n\0\u{1}\u{1}\0\0ÿ" ∷ bytes "P5\n2 2\n65535\nÿÿ\0\0ab\0\n" ∷ bytes "P5\n1 1\n1000\n\u{3}è" ∷ []
unfolding pgm_of bytes
two_byte_files = refl

-- an output that is just long enough, longer, one short, as long as the pixels, and none: 12 bytes, 13 bytes with two a pixel
pub lengths : write_pgm 1 1 byte_greatest (97 ∷ []) 12 ∷ write_pgm 1 1 byte_greatest (97 ∷ []) 20 ∷ write_pgm 1 1 256 (97 ∷ []) 13 ∷ []
    ≡ record { refusal = 0; length = 12 } ∷ record { refusal = 0; length = 12 } ∷ record { refusal = 0; length = 13 } ∷ []
unfolding write_pgm
lengths = refl

pub shorts : write_pgm 1 1 byte_greatest (97 ∷ []) 11 ∷ write_pgm 1 1 byte_greatest (97 ∷ []) 1 ∷ write_pgm 1 1 256 (97 ∷ []) 12
    ∷ write_pgm 1 1 byte_greatest (97 ∷ []) 0 ∷ []
    ≡ refused_write 5 ∷ refused_write 5 ∷ refused_write 5 ∷ refused_write 5 ∷ []
unfolding write_pgm
shorts = refl

-- 2, 29, 3 and 28 alone; then the first that is met of several: 2, 29, 3, 28, 5
pub refusals : write_pgm 0 1 7 [] 99 ∷ write_pgm 1 32769 7 [] 99 ∷ write_pgm 4097 4096 7 [] 99 ∷ write_pgm 1 1 0 (0 ∷ []) 99 ∷ write_pgm 1 1 65536 (0 ∷ []) 99
    ∷ write_pgm 1 1 7 [] 99 ∷ write_pgm 1 1 7 (1 ∷ 1 ∷ []) 99 ∷ write_pgm 2 1 7 (1 ∷ 8 ∷ []) 99 ∷ write_pgm 1 1 65534 (65535 ∷ []) 99 ∷ []
    ≡ refused_write 2 ∷ refused_write 2 ∷ refused_write 2 ∷ refused_write 29 ∷ refused_write 29
    ∷ refused_write 3 ∷ refused_write 3 ∷ refused_write 28 ∷ refused_write 28 ∷ []
unfolding write_pgm
refusals = refl

pub first_refusals : write_pgm 0 1 0 (9 ∷ []) 0 ∷ write_pgm 1 1 0 (9 ∷ 9 ∷ []) 0 ∷ write_pgm 1 1 7 (9 ∷ 9 ∷ []) 0 ∷ write_pgm 1 1 7 (9 ∷ []) 0
    ∷ write_pgm 1 1 9 (9 ∷ []) 0 ∷ []
    ≡ refused_write 2 ∷ refused_write 29 ∷ refused_write 3 ∷ refused_write 28 ∷ refused_write 5 ∷ []
unfolding write_pgm
first_refusals = refl
