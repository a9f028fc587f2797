-- What follows of an admitted bank: every index in range, every window inside 2^32, every rate in 400..50,000.
use mathlib.Core.Path.{◌≡◌, refl, ap}
use native.Mathlib.Omega.{arith}
use mathlib.Core.Bool.{true}
use mathlib.Core.List.{List}
use Prim.Native.Nat.{ℕ, ◌≤◌, zero, suc, ◌+◌, ◌-◌, ◌<◌}
use borrow.Author.Tests.{eqb-true, eq-eqb, le-leb}
use native.Mathlib.Nat.{add-zero}
use lib.IntN.{ℤ, pos, negsuc}
use lib.Signed.{◌≤ℤ◌, ◌<ℤ◌}
use lib.Dec.{ltb→lt, leb→le, lt→ltb, le→leb}
use Rattle.bank.specs.Admission.{fault_number, fault_of, admitted}
use Rattle.bank.specs.declared.Fault.{Fault}
use Rattle.std.specs.Prelude.{Result, Ok, Err}
use Rattle.bank.specs.Rules.{Admitted, Rising, GoodSide, GoodWindow, Sounding}
use Rattle.bank.proofs.RulesLaws.{fine-rules, rules-fine}
use Rattle.records.specs.Chunks.{chunk_at}
use Rattle.records.specs.Sides.{bag_of, gen_of, mod_of, parts_of}
use Rattle.records.specs.declared.Side.{Side}
use Rattle.arith.specs.Holds.{word32}
use Rattle.records.specs.Windows.{start_of, end_of, loop_start_of, loop_end_of, mode_of, loops, movers}
use Rattle.records.specs.declared.Parts.{Parts}
use Rattle.records.specs.declared.Zone.{Zone}
use Rattle.records.specs.Headers.{rate_of}
use Rattle.records.specs.Zones.{zone_at, global_of}

number-fine : (f : Result (Unit {0}) Fault) → fault_number f ≡ 0 → f ≡ Ok tt
number-fine (Ok u) e = refl
number-fine (Err f) e = absurd (omega arith)

-- a bank is admitted exactly where 01's rules hold
pub admitted-rules : (b : List ℕ) → admitted b ≡ true → Admitted b
unfolding admitted
admitted-rules b e = fine-rules b (number-fine (fault_of b) (eqb-true (fault_number (fault_of b)) 0 e))

pub rules-admitted : (b : List ℕ) → Admitted b → admitted b ≡ true
unfolding admitted
rules-admitted b a = eq-eqb (fault_number (fault_of b)) 0 (ap fault_number (rules-fine b a))

-- its chunks end within 65,536 bytes
pub admitted-room : (b : List ℕ) → admitted b ≡ true → chunk_at b 9 ≤ 65536
admitted-room b e = let a = admitted-rules b e in omega (arith, a.whole, a.short)

-- indexes that never fall and end at the last record are all in range
module _ {index : ℕ → ℕ} {n m : ℕ} (r : Rising index n m) where
  up : (i d : ℕ) → i + d < n → index i ≤ index (i + d)
  up i zero h = rw add-zero (omega arith)
  up i (suc d) h =
      let e : i + suc d ≡ i + d + 1 = omega arith in
      rw e (omega (arith, up i d (omega arith), r.grows (i + d) (omega arith)))

  pub index_in : (i : ℕ) → i < n → index i < m
  index_in i h =
      let last : i + (n - 1 - i) ≡ n - 1 = omega arith in
      let below : index i ≤ index (n - 1) = rw last at (up i (n - 1 - i) (omega arith)) in
      omega (arith, r.ends (n - 1) (omega arith))

module _ {b : List ℕ} {s : Side} (g : GoodSide b s) where
  -- the bag index of a head; the generator and the modulator index of a bag
  pub bag-in : (h : ℕ) → h < s.nheads → bag_of b s h < s.nbags
  bag-in h l = index_in g.heads h l

  pub gen-in : (z : ℕ) → z < s.nbags → gen_of b s z < s.ngens
  gen-in z l = index_in g.gens z l

  pub mod-in : (z : ℕ) → z < s.nbags → mod_of b s z < s.nmods
  mod-in z l = index_in g.mods z l

  -- a zone of a head is a bag, and the one behind it too
  pub zone-in-bags : (h z : ℕ) → h + 1 < s.nheads → z < bag_of b s (h + 1) → z + 1 < s.nbags
  zone-in-bags h z l u = omega (arith, bag-in (h + 1) l)

-- a whole number of 32 bits
record Word (x : ℤ) : Type 0 where
  low : pos 0 ≤ℤ x
  high : x <ℤ pos 4294967296

word_same : (x : ℤ) → Word x → pos (word32 x) ≡ x
unfolding word32
word_same (pos a) w = rw (le-leb a 4294967295 (omega (arith, ltb→lt a 4294967296 w.high.lt))) refl
word_same (negsuc a) w = absurd w.low.le

word_lt : (x y : ℤ) → Word x → Word y → x <ℤ y → word32 x < word32 y
word_lt x y w v h = unpos-lt (word32 x) (word32 y) (rw (word_same x w, word_same y v) h)
  where
    unpos-lt : (a c : ℕ) → pos a <ℤ pos c → a < c
    unpos-lt a c h = ltb→lt a c h.lt

word-le : (x y : ℤ) → Word x → Word y → x ≤ℤ y → word32 x ≤ word32 y
word-le x y w v h = unpos-le (word32 x) (word32 y) (rw (word_same x w, word_same y v) h)
  where
    unpos-le : (a c : ℕ) → pos a ≤ℤ pos c → a ≤ c
    unpos-le a c h = leb→le a c h.le

-- orders of whole numbers follow each other
le-lt : (x y z : ℤ) → x ≤ℤ y → y <ℤ z → x <ℤ z
le-lt (pos a) (pos c) (pos d) h k = record { lt = lt→ltb a d (omega (arith, leb→le a c h.le, ltb→lt c d k.lt)) }
le-lt (pos a) (negsuc c) z h k = absurd h.le
le-lt x (pos c) (negsuc d) h k = absurd k.lt
le-lt (negsuc a) (pos c) (pos d) h k = record { lt = tt }
le-lt (negsuc a) (negsuc c) (pos d) h k = record { lt = tt }
le-lt (negsuc a) (negsuc c) (negsuc d) h k = record { lt = lt→ltb d a (omega (arith, leb→le c a h.le, ltb→lt d c k.lt)) }

lt-le : (x y : ℤ) → x <ℤ y → x ≤ℤ y
lt-le (pos a) (pos c) h = record { le = le→leb a c (omega (arith, ltb→lt a c h.lt)) }
lt-le (pos a) (negsuc c) h = absurd h.lt
lt-le (negsuc a) (pos c) h = record { le = tt }
lt-le (negsuc a) (negsuc c) h = record { le = le→leb c a (omega (arith, ltb→lt c a h.lt)) }

le-le : (x y z : ℤ) → x ≤ℤ y → y ≤ℤ z → x ≤ℤ z
le-le (pos a) (pos c) (pos d) h k = record { le = le→leb a d (omega (arith, leb→le a c h.le, leb→le c d k.le)) }
le-le (pos a) (negsuc c) z h k = absurd h.le
le-le x (pos c) (negsuc d) h k = absurd k.le
le-le (negsuc a) (pos c) (pos d) h k = record { le = tt }
le-le (negsuc a) (negsuc c) (pos d) h k = record { le = tt }
le-le (negsuc a) (negsuc c) (negsuc d) h k = record { le = le→leb d a (omega (arith, leb→le c a h.le, leb→le d c k.le)) }

-- a good window as numbers of 32 bits
pub record WindowWords (b : List ℕ) (m : Parts) (k : ℕ) (v : ℕ → ℤ) : Type 0 where
  pub some : word32 (start_of b m k v) < word32 (end_of b m k v)
  pub high : word32 (end_of b m k v) < 4294967296
  pub loop-low : loops (mode_of v) ≡ true → word32 (start_of b m k v) ≤ word32 (loop_start_of b m k v)
  pub loop-some : loops (mode_of v) ≡ true → word32 (loop_start_of b m k v) < word32 (loop_end_of b m k v)
  pub loop-high : loops (mode_of v) ≡ true → word32 (loop_end_of b m k v) ≤ word32 (end_of b m k v)

module _ {b : List ℕ} {m : Parts} {k : ℕ} {v : ℕ → ℤ} (w : GoodWindow b m k v) where
  abbrev start : ℤ
  start = start_of b m k v

  abbrev end : ℤ
  end = end_of b m k v

  abbrev loop-start : ℤ
  loop-start = loop_start_of b m k v

  abbrev loop-end : ℤ
  loop-end = loop_end_of b m k v

  start_word : Word start
  start_word = record { low = w.low; high = le-lt start end (pos 4294967296) (lt-le start end w.some) w.high }

  end-word : Word end
  end-word = record { low = le-le (pos 0) start end w.low (lt-le start end w.some); high = w.high }

  loop-start-word : loops (mode_of v) ≡ true → Word loop-start
  loop-start-word l =
      record {
        low = le-le (pos 0) start loop-start w.low (w.loop-low l);
        high = le-lt loop-start end (pos 4294967296) (le-le loop-start loop-end end (lt-le loop-start loop-end (w.loop-some l)) (w.loop-high l)) w.high;
      }

  loop-end-word : loops (mode_of v) ≡ true → Word loop-end
  loop-end-word l =
      record {
        low = le-le (pos 0) loop-start loop-end (loop-start-word l).low (lt-le loop-start loop-end (w.loop-some l));
        high = le-lt loop-end end (pos 4294967296) (w.loop-high l) w.high;
      }

  pub window-words : WindowWords b m k v
  window-words =
      record {
        some = word_lt start end start_word end-word w.some;
        high = below (word32 end) (rw (word_same end end-word) w.high);
        loop-low = λ l. word-le start loop-start start_word (loop-start-word l) (w.loop-low l);
        loop-some = λ l. word_lt loop-start loop-end (loop-start-word l) (loop-end-word l) (w.loop-some l);
        loop-high = λ l. word-le loop-end end (loop-end-word l) end-word (w.loop-high l);
      }
    where
      below : (a : ℕ) → pos a <ℤ pos 4294967296 → a < 4294967296
      below a h = ltb→lt a 4294967296 h.lt

-- a sounding instrument zone of an admitted bank
module _ {b : List ℕ} (a : Admitted b) {h z : ℕ} (w : Sounding b (parts_of b).instruments h z) where
  abbrev local : Zone
  local = zone_at b (parts_of b).instruments z

  abbrev global : Zone
  global = global_of b (parts_of b).instruments h

  pub sample_in : local.link < (parts_of b).instruments.nlinks - 1
  unfolding parts_of
  sample_in = a.instrument-side.links h z w

  pub rate-in : (400 ≤ rate_of b (parts_of b) local.link) × (rate_of b (parts_of b) local.link ≤ 50000)
  rate-in = (a.sounds.rate-low h z w, a.sounds.rate-high h z w)

  pub window-in : WindowWords b (parts_of b) local.link (movers b (parts_of b) local global)
  window-in = window-words (a.sounds.windows h z w)

-- a sounding preset zone of an admitted bank names an instrument
pub instrument-in : {b : List ℕ} → Admitted b → (h z : ℕ) → Sounding b (parts_of b).presets h z → (zone_at b (parts_of b).presets z).link < (parts_of b).presets.nlinks - 1
unfolding parts_of
instrument-in a h z w = a.preset-side.links h z w
