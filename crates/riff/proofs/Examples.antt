-- Files computed by the definition, and a file that was written from its parts.
use mathlib.Core.List.{List, [], ◌∷◌}
use mathlib.Core.Path.{◌≡◌, refl}
use native.Mathlib.Omega.{arith}
use lib.Dec.{lit<}
use Rattle.arith.specs.Bytes.{u8_at, u32_at}
use Rattle.riff.specs.Chunks.{least_size, type_at, is_whole, is_named, next_at, stop_from, first_from, stop_at, first_at}
use Rattle.riff.specs.Form.{bank_type, data_type, samples_name, refused_by, list_body, chunk_body, bank_at, data_at, data_span, samples_at, found_in, find_of}
use Rattle.riff.specs.Written.{four_low_first, Chunk, pad_of, chunk_bytes, chunks_bytes, list_of, Written}

-- INFO, sdta with three bytes of samples, pdta with three bytes and no pad byte at the form's end
pub sound : find_of (82 ∷ 73 ∷ 70 ∷ 70 ∷ 55 ∷ 0 ∷ 0 ∷ 0 ∷ 115 ∷ 102 ∷ 98 ∷ 107 ∷ 76 ∷ 73 ∷ 83 ∷ 84 ∷ 4 ∷ 0 ∷ 0 ∷ 0 ∷ 73 ∷ 78 ∷ 70 ∷ 79 ∷ 76 ∷ 73 ∷ 83 ∷ 84 ∷ 16 ∷ 0 ∷ 0 ∷ 0 ∷ 115 ∷ 100 ∷ 116 ∷ 97 ∷ 115 ∷ 109 ∷ 112 ∷ 108 ∷ 3 ∷ 0 ∷ 0 ∷ 0 ∷ 1 ∷ 2 ∷ 3 ∷ 0 ∷ 76 ∷ 73 ∷ 83 ∷ 84 ∷ 7 ∷ 0 ∷ 0 ∷ 0 ∷ 112 ∷ 100 ∷ 116 ∷ 97 ∷ 9 ∷ 8 ∷ 7 ∷ []) ≡ record { number = 0; place = 0; bank = record { at = 60; size = 3 }; samples = record { at = 44; size = 3 } }
unfolding find_of found_in data_span samples_at bank_at data_at stop_at stop_from first_at first_from is_whole is_named next_at type_at least_size list_body chunk_body refused_by u32_at u8_at
sound = refl

-- the other way round
pub swapped : find_of (82 ∷ 73 ∷ 70 ∷ 70 ∷ 56 ∷ 0 ∷ 0 ∷ 0 ∷ 115 ∷ 102 ∷ 98 ∷ 107 ∷ 76 ∷ 73 ∷ 83 ∷ 84 ∷ 7 ∷ 0 ∷ 0 ∷ 0 ∷ 112 ∷ 100 ∷ 116 ∷ 97 ∷ 9 ∷ 8 ∷ 7 ∷ 0 ∷ 76 ∷ 73 ∷ 83 ∷ 84 ∷ 16 ∷ 0 ∷ 0 ∷ 0 ∷ 115 ∷ 100 ∷ 116 ∷ 97 ∷ 115 ∷ 109 ∷ 112 ∷ 108 ∷ 3 ∷ 0 ∷ 0 ∷ 0 ∷ 1 ∷ 2 ∷ 3 ∷ 0 ∷ 76 ∷ 73 ∷ 83 ∷ 84 ∷ 4 ∷ 0 ∷ 0 ∷ 0 ∷ 73 ∷ 78 ∷ 70 ∷ 79 ∷ []) ≡ record { number = 0; place = 0; bank = record { at = 24; size = 3 }; samples = record { at = 48; size = 3 } }
unfolding find_of found_in data_span samples_at bank_at data_at stop_at stop_from first_at first_from is_whole is_named next_at type_at least_size list_body chunk_body refused_by u32_at u8_at
swapped = refl

-- no byte
pub empty : find_of ([]) ≡ record { number = 40; place = 0; bank = record { at = 0; size = 0 }; samples = record { at = 0; size = 0 } }
unfolding find_of found_in data_span samples_at bank_at data_at stop_at stop_from first_at first_from is_whole is_named next_at type_at least_size list_body chunk_body refused_by u32_at u8_at
empty = refl

-- another type
pub wave : find_of (82 ∷ 73 ∷ 70 ∷ 70 ∷ 4 ∷ 0 ∷ 0 ∷ 0 ∷ 87 ∷ 65 ∷ 86 ∷ 69 ∷ []) ≡ record { number = 40; place = 8; bank = record { at = 0; size = 0 }; samples = record { at = 0; size = 0 } }
unfolding find_of found_in data_span samples_at bank_at data_at stop_at stop_from first_at first_from is_whole is_named next_at type_at least_size list_body chunk_body refused_by u32_at u8_at
wave = refl

-- a form that says more than there is
pub cut : find_of (82 ∷ 73 ∷ 70 ∷ 70 ∷ 55 ∷ 0 ∷ 0 ∷ 0 ∷ 115 ∷ 102 ∷ 98 ∷ 107 ∷ 76 ∷ 73 ∷ 83 ∷ 84 ∷ 4 ∷ 0 ∷ 0 ∷ 0 ∷ []) ≡ record { number = 41; place = 0; bank = record { at = 0; size = 0 }; samples = record { at = 0; size = 0 } }
unfolding find_of found_in data_span samples_at bank_at data_at stop_at stop_from first_at first_from is_whole is_named next_at type_at least_size list_body chunk_body refused_by u32_at u8_at
cut = refl

-- a chunk past the end of the form
pub past : find_of (82 ∷ 73 ∷ 70 ∷ 70 ∷ 12 ∷ 0 ∷ 0 ∷ 0 ∷ 115 ∷ 102 ∷ 98 ∷ 107 ∷ 115 ∷ 109 ∷ 112 ∷ 108 ∷ 9 ∷ 0 ∷ 0 ∷ 0 ∷ []) ≡ record { number = 41; place = 12; bank = record { at = 0; size = 0 }; samples = record { at = 0; size = 0 } }
unfolding find_of found_in data_span samples_at bank_at data_at stop_at stop_from first_at first_from is_whole is_named next_at type_at least_size list_body chunk_body refused_by u32_at u8_at
past = refl

-- no sdta list
pub no-samples : find_of (82 ∷ 73 ∷ 70 ∷ 70 ∷ 16 ∷ 0 ∷ 0 ∷ 0 ∷ 115 ∷ 102 ∷ 98 ∷ 107 ∷ 76 ∷ 73 ∷ 83 ∷ 84 ∷ 4 ∷ 0 ∷ 0 ∷ 0 ∷ 112 ∷ 100 ∷ 116 ∷ 97 ∷ []) ≡ record { number = 42; place = 24; bank = record { at = 0; size = 0 }; samples = record { at = 0; size = 0 } }
unfolding find_of found_in data_span samples_at bank_at data_at stop_at stop_from first_at first_from is_whole is_named next_at type_at least_size list_body chunk_body refused_by u32_at u8_at
no-samples = refl

-- no bank
pub no-bank : find_of (82 ∷ 73 ∷ 70 ∷ 70 ∷ 28 ∷ 0 ∷ 0 ∷ 0 ∷ 115 ∷ 102 ∷ 98 ∷ 107 ∷ 76 ∷ 73 ∷ 83 ∷ 84 ∷ 16 ∷ 0 ∷ 0 ∷ 0 ∷ 115 ∷ 100 ∷ 116 ∷ 97 ∷ 115 ∷ 109 ∷ 112 ∷ 108 ∷ 3 ∷ 0 ∷ 0 ∷ 0 ∷ 1 ∷ 2 ∷ 3 ∷ 0 ∷ []) ≡ record { number = 42; place = 36; bank = record { at = 0; size = 0 }; samples = record { at = 0; size = 0 } }
unfolding find_of found_in data_span samples_at bank_at data_at stop_at stop_from first_at first_from is_whole is_named next_at type_at least_size list_body chunk_body refused_by u32_at u8_at
no-bank = refl

-- the samples of the written file, and its chunks
abbrev inner : List Chunk
inner = record { name = samples_name; body = 1 ∷ 2 ∷ 3 ∷ [] } ∷ []

abbrev chunks : List Chunk
chunks = list_of 1330007625 [] ∷ list_of data_type (chunks_bytes inner) ∷ list_of bank_type (9 ∷ 8 ∷ 7 ∷ []) ∷ []

-- there is a file as the theorem on written files asks for, and it is the first one above with a pad byte at its end
pub written : Written chunks inner (list_of 1330007625 [] ∷ list_of data_type (chunks_bytes inner) ∷ []) (list_of 1330007625 [] ∷ []) [] (9 ∷ 8 ∷ 7 ∷ []) (1 ∷ 2 ∷ 3 ∷ [])
unfolding chunks_bytes chunk_bytes four_low_first pad_of u32_at u8_at
written =
    record {
      small = lit< tt;
      good = ((lit< tt, λ e. omega arith), ((lit< tt, λ e. omega arith), ((lit< tt, λ e. omega arith), tt)));
      good-inner = ((lit< tt, λ e. omega arith), tt);
      bank-in = record { behind = []; cut = refl; none = (λ k. omega (arith, k.1), (λ k. omega (arith, k.1), tt)) };
      data-in = record { behind = list_of bank_type (9 ∷ 8 ∷ 7 ∷ []) ∷ []; cut = refl; none = (λ k. omega (arith, k.1), tt) };
      samples-in = record { behind = []; cut = refl; none = tt };
    }
