-- Files that are written from a score: each definition reads back what is written, with running status and without.
use Rattle.smf.specs.declared.Quantity.{Quantity}
use mathlib.Core.Bool.{Bool, true, false, cond, true≢false, not, ◌&&◌, ◌||◌, and-true}
use mathlib.Core.List.{List, [], ◌∷◌, ◌++◌, append_assoc}
use mathlib.Core.Logic.{◌⊎◌, inl, ◌≢◌, ⊎_elim}
use mathlib.Core.Path.{◌≡◌, refl, sym, ap, subst, ◌∙◌}
use Prim.Native.Nat.{ℕ, zero, suc, ◌+◌, ◌*◌, ◌-◌, ◌/◌, ◌%◌, ◌<◌, ◌≤◌}
use native.Mathlib.Numerals.{add-one}
use native.Mathlib.Nat.{not-suc-le-zero, le_of_suc-le-suc, div-div-eq-div-mul}
use native.Mathlib.Omega.{arith}
use lib.Dec.{ltb, eqb}
use lib.ListN.{length, drop, get_or, length-drop, length-append}
use lib.Seq.{drop-cons, drop-drop, drop-append_seam}
use borrow.Author.Tests.{ltb-true, ltb-false, eqb-true, lt-ltb, le-ltb, le-leb, lt-leb, ne_eqb}
use Rattle.arith.specs.Bytes.{u8_at}
use Rattle.arith.specs.Holds.{between}
use Rattle.smf.specs.declared.Cursor.{Cursor}
use Rattle.smf.specs.declared.Event.{Event}
use Rattle.smf.specs.declared.Header.{Header}
use Rattle.smf.specs.declared.Item.{Item}
use Rattle.smf.specs.declared.Met.{Met}
use Rattle.smf.specs.Quantities.{two_at, three_at, four_at, quantity_at, quantity}
use Rattle.smf.specs.Head.{chunk_end, track_from, head_of}
use Rattle.smf.specs.Items.{is_channel, is_short, short_at, long_at, spoken_at, exclusive_at, meta_of, meta_at, item_at}
use Rattle.smf.specs.Ticks.{sum_after, is_late, frame_of}
use Rattle.smf.specs.Track.{Song, Events, Refused, edge_of, is_bad, carried, event_of, acted, obeyed, meet_at, behind_event, song_from}
use Rattle.smf.specs.Songs.{start_at, turns, events_of, verdict, test_of}
use Rattle.smf.specs.Reading.{entry}
use Rattle.arith.specs.Bytes.{AllBytes}
use Rattle.arith.proofs.BytesLaws.{all_append}
use Rattle.smf.specs.Spelling.{Mark, Score, has_one, GoodMark, GoodMarks, GoodScore, ticks_of, tempo_behind, ringing, rung_from, in_time_from, rung, in_time, two_bytes, three_bytes, four_bytes, quantity_bytes, status_bytes, data_bytes, event_bytes, running_behind, track_bytes, track_of, file_bytes, WrittenInBytes, WrittenIsRung, WrittenTooLate, RunningIsSpelling, RunningReadsTheSame}
use Rattle.smf.proofs.QuantitiesLaws.{from_last, from_more}
use Rattle.smf.proofs.MeetingLaws.{meet-good}
use Rattle.smf.proofs.HeadLaws.{track-found, track-turn, head-good}
use Rattle.smf.proofs.ReadingLaws.{reads_all}
use Rattle.smf.proofs.TrackLaws.{song_by, song-is}
use Rattle.smf.proofs.SongsLaws.{events-is}
use Rattle.smf.proofs.BehindLaws.{single-head}

-- ---- 1. Bytes one after the other

-- the byte at a place from which on the rest of a file is known, and the rest behind it
pub record Next (b : List ℕ) (at x : ℕ) (rest : List ℕ) : Type 0 where
  pub inside : at < length b
  pub byte : u8_at b at ≡ x
  pub behind : drop (at + 1) b ≡ rest

-- so it is where the rest begins with a byte
pub next : (b : List ℕ) (at x : ℕ) (rest : List ℕ) → drop at b ≡ x ∷ rest → Next b at x rest
unfolding u8_at
next b at x rest e =
    let long : length b - at ≡ suc (length rest) = sym (length-drop at b) ∙ ap length e in
    let h : at < length b = omega arith in
    let d : get_or b at 0 ∷ drop (suc at) b ≡ x ∷ rest = sym (drop-cons b at 0 h) ∙ e in
    record { inside = h; byte = cc; behind = rw add-one (cc) }

-- ---- 2. Quantities

-- a quantity that is read back, with the rest of the file behind it
pub record Quantity-read (b : List ℕ) (at n : ℕ) (rest : List ℕ) : Type 0 where
  pub place : ℕ
  pub reads : quantity_at b (length b) at ≡ quantity n place
  pub behind : drop place b ≡ rest

-- a quantity of one byte
quantity-small : (b : List ℕ) (at n : ℕ) → at < length b → u8_at b at ≡ n → n < 128 → quantity_at b (length b) at ≡ quantity n (at + 1)
unfolding quantity_at
quantity-small b at n h e l =
    let small : u8_at b at < 128 = omega arith in
    let value : 0 * 128 + u8_at b at ≡ n = omega arith in
    from_last 3 b (length b) at 0 h small ∙ ap (λ (v : ℕ). quantity v (at + 1)) value

-- a quantity below 128 is written in one byte
pub one_byte : (n : ℕ) → n < 128 → quantity_bytes n ≡ n ∷ []
unfolding quantity_bytes
one_byte n h = rw (lt-ltb n 128 h) refl

-- .. below 16,384 in two
pub two_bytes_lem : (n : ℕ) → 128 ≤ n → n < 16384 → quantity_bytes n ≡ (128 + n / 128) ∷ n % 128 ∷ []
unfolding quantity_bytes
two_bytes_lem n h k = rw (le-ltb n 128 h, lt-ltb n 16384 k) refl

-- .. below 2,097,152 in three
pub three-bytes : (n : ℕ) → 16384 ≤ n → n < 2097152 → quantity_bytes n ≡ (128 + n / 16384) ∷ (128 + n / 128 % 128) ∷ n % 128 ∷ []
unfolding quantity_bytes
three-bytes n h k =
    let l : 128 ≤ n = omega arith in
    rw (le-ltb n 128 l, le-ltb n 16384 h, lt-ltb n 2097152 k) refl

-- .. and others in four
pub four_bytes_lem : (n : ℕ) → 2097152 ≤ n → quantity_bytes n ≡ (128 + n / 2097152) ∷ (128 + n / 16384 % 128) ∷ (128 + n / 128 % 128) ∷ n % 128 ∷ []
unfolding quantity_bytes
four_bytes_lem n h =
    let l : 128 ≤ n = omega arith in
    let m : 16384 ≤ n = omega arith in
    rw (le-ltb n 128 l, le-ltb n 16384 m, le-ltb n 2097152 h) refl

module _ (b : List ℕ) (at n : ℕ) (rest : List ℕ) (e : drop at b ≡ quantity_bytes n ++ rest) where
  -- one byte is read back
  read_one : n < 128 → Quantity-read b at n rest
  read_one h =
      let x = next b at n rest (e ∙ ap (λ (q : List ℕ). q ++ rest) (one_byte n h)) in
      record { place = at + 1; reads = quantity-small b at n x.inside x.byte h; behind = x.behind }

  -- two bytes
  read-two : 128 ≤ n → n < 16384 → Quantity-read b at n rest
  unfolding quantity_at
  read-two h k =
      let x = next b at (128 + n / 128) (n % 128 ∷ rest) (e ∙ ap (λ (q : List ℕ). q ++ rest) (two_bytes_lem n h k)) in
      let y = next b (at + 1) (n % 128) rest x.behind in
      let u : 128 ≤ u8_at b at = omega (arith, x.byte) in
      let v : u8_at b (at + 1) < 128 = omega (arith, y.byte) in
      let value : (0 * 128 + (u8_at b at - 128)) * 128 + u8_at b (at + 1) ≡ n = omega (arith, x.byte, y.byte) in
      record {
        place = at + 1 + 1;
        reads =
            from_more 3 b (length b) at 0 x.inside u
            ∙ from_last 2 b (length b) (at + 1) (0 * 128 + (u8_at b at - 128)) y.inside v
            ∙ ap (λ (z : ℕ). quantity z (at + 1 + 1)) value;
        behind = y.behind;
      }

  -- three bytes
  read-three : 16384 ≤ n → n < 2097152 → Quantity-read b at n rest
  unfolding quantity_at
  read-three h k =
      let x = next b at (128 + n / 16384) ((128 + n / 128 % 128) ∷ n % 128 ∷ rest) (e ∙ ap (λ (q : List ℕ). q ++ rest) (three-bytes n h k)) in
      let y = next b (at + 1) (128 + n / 128 % 128) (n % 128 ∷ rest) x.behind in
      let z = next b (at + 1 + 1) (n % 128) rest y.behind in
      let u : 128 ≤ u8_at b at = omega (arith, x.byte) in
      let v : 128 ≤ u8_at b (at + 1) = omega (arith, y.byte) in
      let w : u8_at b (at + 1 + 1) < 128 = omega (arith, z.byte) in
      let value : ((0 * 128 + (u8_at b at - 128)) * 128 + (u8_at b (at + 1) - 128)) * 128 + u8_at b (at + 1 + 1) ≡ n = omega (arith, x.byte, y.byte, z.byte) in
      record {
        place = at + 1 + 1 + 1;
        reads =
            from_more 3 b (length b) at 0 x.inside u
            ∙ from_more 2 b (length b) (at + 1) (0 * 128 + (u8_at b at - 128)) y.inside v
            ∙ from_last 1 b (length b) (at + 1 + 1) ((0 * 128 + (u8_at b at - 128)) * 128 + (u8_at b (at + 1) - 128)) z.inside w
            ∙ ap (λ (z : ℕ). quantity z (at + 1 + 1 + 1)) value;
        behind = z.behind;
      }

  -- four bytes
  read-four : 2097152 ≤ n → n < 268435456 → Quantity-read b at n rest
  unfolding quantity_at
  read-four h k =
      let x = next b at (128 + n / 2097152) ((128 + n / 16384 % 128) ∷ (128 + n / 128 % 128) ∷ n % 128 ∷ rest) (e ∙ ap (λ (q : List ℕ). q ++ rest) (four_bytes_lem n h)) in
      let y = next b (at + 1) (128 + n / 16384 % 128) ((128 + n / 128 % 128) ∷ n % 128 ∷ rest) x.behind in
      let z = next b (at + 1 + 1) (128 + n / 128 % 128) (n % 128 ∷ rest) y.behind in
      let l = next b (at + 1 + 1 + 1) (n % 128) rest z.behind in
      let u : 128 ≤ u8_at b at = omega (arith, x.byte) in
      let v : 128 ≤ u8_at b (at + 1) = omega (arith, y.byte) in
      let w : 128 ≤ u8_at b (at + 1 + 1) = omega (arith, z.byte) in
      let m : u8_at b (at + 1 + 1 + 1) < 128 = omega (arith, l.byte) in
      let high : n / 16384 / 128 ≡ n / 2097152 = div-div-eq-div-mul n 16384 128 in
      let low : n / 128 / 128 ≡ n / 16384 = div-div-eq-div-mul n 128 128 in
      let v1 : 0 * 128 + (u8_at b at - 128) ≡ n / 2097152 = omega (arith, x.byte) in
      let v2 : n / 2097152 * 128 + (u8_at b (at + 1) - 128) ≡ n / 16384 = omega (arith, y.byte) in
      let v3 : n / 16384 * 128 + (u8_at b (at + 1 + 1) - 128) ≡ n / 128 = omega (arith, z.byte) in
      let v4 : n / 128 * 128 + u8_at b (at + 1 + 1 + 1) ≡ n = omega (arith, l.byte) in
      let value : (((0 * 128 + (u8_at b at - 128)) * 128 + (u8_at b (at + 1) - 128)) * 128 + (u8_at b (at + 1 + 1) - 128)) * 128 + u8_at b (at + 1 + 1 + 1) ≡ n = rw (v1, v2, v3) v4 in
      record {
        place = at + 1 + 1 + 1 + 1;
        reads =
            from_more 3 b (length b) at 0 x.inside u
            ∙ from_more 2 b (length b) (at + 1) (0 * 128 + (u8_at b at - 128)) y.inside v
            ∙ from_more 1 b (length b) (at + 1 + 1) ((0 * 128 + (u8_at b at - 128)) * 128 + (u8_at b (at + 1) - 128)) z.inside w
            ∙ from_last 0 b (length b) (at + 1 + 1 + 1) (((0 * 128 + (u8_at b at - 128)) * 128 + (u8_at b (at + 1) - 128)) * 128 + (u8_at b (at + 1 + 1) - 128)) l.inside m
            ∙ ap (λ (z : ℕ). quantity z (at + 1 + 1 + 1 + 1)) value;
        behind = l.behind;
      }

  -- a quantity is read back
  pub read-quantity : n < 268435456 → Quantity-read b at n rest
  read-quantity h = one (ltb n 128) refl
    where
      three : 16384 ≤ n → (t : Bool) → ltb n 2097152 ≡ t → Quantity-read b at n rest
      three l true f = read-three l (ltb-true n 2097152 f)
      three l false f = read-four (ltb-false n 2097152 f) h

      two : 128 ≤ n → (t : Bool) → ltb n 16384 ≡ t → Quantity-read b at n rest
      two l true f = read-two l (ltb-true n 16384 f)
      two l false f = three (ltb-false n 16384 f) (ltb n 2097152) refl

      one : (t : Bool) → ltb n 128 ≡ t → Quantity-read b at n rest
      one true f = read_one (ltb-true n 128 f)
      one false f = two (ltb-false n 128 f) (ltb n 16384) refl

-- ---- 3. Events

-- of two tests that hold, the second
both : (s t : Bool) → (s && t) ≡ true → t ≡ true
both true t e = e
both false t e = absurd (true≢false (sym e))

-- a channel event that is read back, with the rest of the file behind it
record Channel-read (b : List ℕ) (x : Item) (status first second : ℕ) (rest : List ℕ) : Type 0 where
  place : ℕ
  reads : x ≡ Item.Channel status first second place
  behind : drop place b ≡ rest

module _ (b : List ℕ) (status first second : ℕ) (rest : List ℕ) (low : 128 ≤ status) (high : status ≤ 239) (small : first < 128) (small2 : second < 128) (short : is_short status ≡ true → second ≡ 0) where
  -- its data bytes, by how many there are
  data-read : (at : ℕ) → drop at b ≡ data_bytes status first second ++ rest
      → (u8_at b at ≡ first) × (at < length b) × Channel-read b (spoken_at b (length b) status at) status first second rest
  unfolding data_bytes spoken_at short_at long_at
  data-read at e = go (is_short status) refl
    where
      go : (t : Bool) → is_short status ≡ t → (u8_at b at ≡ first) × (at < length b) × Channel-read b (spoken_at b (length b) status at) status first second rest
      go true f =
          let x = next b at first rest (rw f at e) in
          let none = le-ltb (length b) (at + 1) (omega (arith, x.inside)) in
          let fine = le-ltb 127 first (omega arith) in
          (x.byte, x.inside, record { place = at + 1; reads = rw (f, none, x.byte, fine, short f) refl; behind = x.behind })
      go false f =
          let x = next b at first (second ∷ rest) (rw f at e) in
          let y = next b (at + 1) second rest x.behind in
          let none = le-ltb (length b) (at + 2) (omega (arith, y.inside)) in
          let fine = le-ltb 127 first (omega arith) in
          let fine2 = le-ltb 127 second (omega arith) in
          let z : at + 1 + 1 ≡ at + 2 = omega arith in
          (x.byte, x.inside, record { place = at + 2; reads = rw (f, none, x.byte, y.byte, fine, fine2) refl; behind = rw z at y.behind })

  -- with its status
  written_read : (running at : ℕ) → drop at b ≡ status ∷ (data_bytes status first second ++ rest)
      → Channel-read b (item_at b (length b) running at) status first second rest
  unfolding item_at
  written_read running at e =
      let x = next b at status (data_bytes status first second ++ rest) e in
      let d = (data-read (at + 1) x.behind).2 in
      let t1 = lt-leb (length b) at x.inside in
      let t2 = le-ltb status 128 low in
      let t3 = lt-ltb status 240 (omega arith) in
      record { place = d.place; reads = rw (x.byte, t1, t2, t3) d.reads; behind = d.behind }

  -- its status is one of a channel event
  is-channel : is_channel status ≡ true
  unfolding between
  is-channel = rw (le-leb 128 status low, le-leb status 239 high) refl

  -- without it, where it runs
  omitted-read : (at : ℕ) → drop at b ≡ data_bytes status first second ++ rest → Channel-read b (item_at b (length b) status at) status first second rest
  unfolding item_at
  omitted-read at e =
      let d = data-read at e in
      let t1 = lt-leb (length b) at d.1 in
      let t2 = lt-ltb first 128 small in
      record { place = d.2.place; reads = rw (d.0, t1, t2, is-channel) d.2.reads; behind = d.2.behind }

  -- in either way
  channel-read : (omit : Bool) (running at : ℕ) → drop at b ≡ (status_bytes omit running status ++ data_bytes status first second) ++ rest
      → Channel-read b (item_at b (length b) running at) status first second rest
  unfolding status_bytes
  channel-read omit running at e = go (omit && eqb status running) refl
    where
      go : (t : Bool) → (omit && eqb status running) ≡ t → Channel-read b (item_at b (length b) running at) status first second rest
      go true f =
          let r : status ≡ running = eqb-true status running (both omit (eqb status running) f) in
          subst (λ (q : ℕ). Channel-read b (item_at b (length b) q at) status first second rest) r (omitted-read at (rw f at e))
      go false f = written_read running at (rw f at e)

-- so many bytes in front of a rest that is not empty
blob : (b : List ℕ) (at : ℕ) (bytes rest : List ℕ) → 1 ≤ length rest → drop at b ≡ bytes ++ rest
    → (at + length bytes ≤ length b) × (drop (at + length bytes) b ≡ rest)
blob b at bytes rest h e =
    let size : length b - at ≡ length bytes + length rest = sym (length-drop at b) ∙ ap length e ∙ length-append bytes rest in
    (omega arith, sym (drop-drop (length bytes) at b) ∙ ap (drop (length bytes)) e ∙ drop-append_seam bytes rest)

-- a meta event that is neither an end of track nor a tempo
meta-other : (b : List ℕ) (kind n at : ℕ) → kind ≢ 47 → kind ≢ 81 → meta_of b kind n at ≡ Item.Passed (at + n)
unfolding meta_of
meta-other b kind n at k l = rw (ne_eqb kind 47 k, ne_eqb kind 81 l) refl

module _ (b : List ℕ) (running at : ℕ) where
  -- a meta event by its type and its length
  meta-by : (kind n : ℕ) (more rest : List ℕ) → drop at b ≡ 255 ∷ kind ∷ more → (q : Quantity-read b (at + 1 + 1) n rest) → kind < 128 → q.place + n ≤ length b
      → item_at b (length b) running at ≡ meta_of b kind n q.place
  unfolding item_at meta_at
  meta-by kind n more rest e q h l =
      let x = next b at 255 (kind ∷ more) e in
      let y = next b (at + 1) kind more x.behind in
      let t1 = lt-leb (length b) at x.inside in
      let t2 = le-ltb 127 kind (omega arith) in
      let t3 = le-ltb (length b) (q.place + n) l in
      rw (x.byte, t1) (rw (q.reads, meta_at) (rw (y.byte, t2, t3) refl))

  -- the same where the length is one byte
  meta-read : (kind n : ℕ) (rest : List ℕ) → drop at b ≡ 255 ∷ kind ∷ n ∷ rest → kind < 128 → n < 128 → at + 1 + 1 + 1 + n ≤ length b
      → item_at b (length b) running at ≡ meta_of b kind n (at + 1 + 1 + 1)
  meta-read kind n rest e h k l =
      let x = next b at 255 (kind ∷ n ∷ rest) e in
      let y = next b (at + 1) kind (n ∷ rest) x.behind in
      let z = next b (at + 1 + 1) n rest y.behind in
      let q : Quantity-read b (at + 1 + 1) n rest =
      record { place = at + 1 + 1 + 1; reads = quantity-small b (at + 1 + 1) n z.inside z.byte k; behind = z.behind } in
      meta-by kind n (n ∷ rest) rest e q h l

  -- the end of track
  pub end_read : drop at b ≡ 255 ∷ 47 ∷ 0 ∷ [] → item_at b (length b) running at ≡ Item.End
  unfolding meta_of
  end_read e =
      let x = next b at 255 (47 ∷ 0 ∷ []) e in
      let y = next b (at + 1) 47 (0 ∷ []) x.behind in
      let z = next b (at + 1 + 1) 0 [] y.behind in
      meta-read 47 0 [] e (omega arith) (omega arith) (omega (arith, z.inside))

  -- a tempo
  tempo-read : (tempo : ℕ) (rest : List ℕ) → tempo < 16777216 → drop at b ≡ (255 ∷ 81 ∷ 3 ∷ three_bytes tempo) ++ rest
      → (item_at b (length b) running at ≡ Item.Tempo tempo (at + 1 + 1 + 1 + 3)) × (drop (at + 1 + 1 + 1 + 3) b ≡ rest)
  unfolding meta_of three_at two_at three_bytes
  tempo-read tempo rest small e =
      let p = at + 1 + 1 + 1 in
      let bytes = tempo / 65536 % 256 ∷ tempo / 256 % 256 ∷ tempo % 256 ∷ rest in
      let x = next b at 255 (81 ∷ 3 ∷ bytes) e in
      let y = next b (at + 1) 81 (3 ∷ bytes) x.behind in
      let z = next b (at + 1 + 1) 3 bytes y.behind in
      let u = next b p (tempo / 65536 % 256) (tempo / 256 % 256 ∷ tempo % 256 ∷ rest) z.behind in
      let v = next b (p + 1) (tempo / 256 % 256) (tempo % 256 ∷ rest) u.behind in
      let w = next b (p + 1 + 1) (tempo % 256) rest v.behind in
      let two : p + 1 + 1 ≡ p + 2 = omega arith in
      let three : p + 1 + 1 + 1 ≡ p + 3 = omega arith in
      let last : u8_at b (p + 2) ≡ tempo % 256 = rw two at w.byte in
      let parts : tempo / 256 / 256 ≡ tempo / 65536 = div-div-eq-div-mul tempo 256 256 in
      let value : (u8_at b p * 256 + u8_at b (p + 1)) * 256 + u8_at b (p + 2) ≡ tempo = omega (arith, u.byte, v.byte) in (
        meta-read 81 3 bytes e (omega arith) (omega arith) (omega (arith, w.inside)) ∙ ap (λ (t : ℕ). Item.Tempo t (p + 3)) value,
        rw three at w.behind,
      )

  -- another meta event is stepped over
  other-read : (kind : ℕ) (bytes rest : List ℕ) → kind < 128 → kind ≢ 47 → kind ≢ 81 → length bytes < 268435456 → 1 ≤ length rest
      → drop at b ≡ (255 ∷ kind ∷ (quantity_bytes (length bytes) ++ bytes)) ++ rest
      → (p : ℕ) × (item_at b (length b) running at ≡ Item.Passed p) × (drop p b ≡ rest)
  other-read kind bytes rest h k l m r e =
      let more = (quantity_bytes (length bytes) ++ bytes) ++ rest in
      let x = next b at 255 (kind ∷ more) e in
      let y = next b (at + 1) kind more x.behind in
      let q = read-quantity b (at + 1 + 1) (length bytes) (bytes ++ rest) (y.behind ∙ append_assoc (quantity_bytes (length bytes)) bytes rest) m in
      let z = blob b q.place bytes rest r q.behind in
      (q.place + length bytes, meta-by kind (length bytes) more (bytes ++ rest) e q h z.0 ∙ meta-other b kind (length bytes) q.place k l, z.1)

  -- a system exclusive event, F0 or F7
  exclusive-by : (status n : ℕ) (more rest : List ℕ) → (eqb status 240 || eqb status 247) ≡ true → 240 ≤ status → status ≢ 255 → drop at b ≡ status ∷ more
      → (q : Quantity-read b (at + 1) n rest) → q.place + n ≤ length b → item_at b (length b) running at ≡ Item.Passed (q.place + n)
  unfolding item_at exclusive_at
  exclusive-by status n more rest h low k e q l =
      let x = next b at status more e in
      let t1 = lt-leb (length b) at x.inside in
      let t2 = le-ltb status 128 (omega arith) in
      let t3 = le-ltb status 240 low in
      let t4 = ne_eqb status 255 k in
      let t5 = le-ltb (length b) (q.place + n) l in
      rw (x.byte, t1, t2, t3, t4, h) (rw (q.reads, exclusive_at) (rw t5 refl))

  -- it is stepped over
  exclusive-read : (status : ℕ) (bytes rest : List ℕ) → ((status ≡ 240) ⊎ (status ≡ 247)) → length bytes < 268435456 → 1 ≤ length rest
      → drop at b ≡ (status ∷ (quantity_bytes (length bytes) ++ bytes)) ++ rest
      → (p : ℕ) × (item_at b (length b) running at ≡ Item.Passed p) × (drop p b ≡ rest)
  exclusive-read status bytes rest h m r e =
      let more = (quantity_bytes (length bytes) ++ bytes) ++ rest in
      let x = next b at status more e in
      let q = read-quantity b (at + 1) (length bytes) (bytes ++ rest) (x.behind ∙ append_assoc (quantity_bytes (length bytes)) bytes rest) m in
      let z = blob b q.place bytes rest r q.behind in
      let by : (eqb status 240 || eqb status 247) ≡ true → 240 ≤ status → status ≢ 255 → item_at b (length b) running at ≡ Item.Passed (q.place + length bytes) =
      λ t low k. exclusive-by status (length bytes) more (bytes ++ rest) t low k e q z.0 in (
        q.place + length bytes,
        ⊎_elim (λ f. by (rw f refl) (omega arith) (omega arith)) (λ f. by (rw f refl) (omega arith) (omega arith)) h,
        z.1,
      )

-- the event of a mark that ends at a place
abbrev pub item_of : Mark → ℕ → Item
item_of (Mark.Channel ticks status first second) p = Item.Channel status first second p
item_of (Mark.Tempo ticks tempo) p = Item.Tempo tempo p
item_of (Mark.Meta ticks kind bytes) p = Item.Passed p
item_of (Mark.Exclusive ticks status bytes) p = Item.Passed p

-- a mark that is read back, with the rest of the file behind it
pub record Mark-read (b : List ℕ) (running at : ℕ) (m : Mark) (rest : List ℕ) : Type 0 where
  pub place : ℕ
  pub reads : item_at b (length b) running at ≡ item_of m place
  pub behind : drop place b ≡ rest

-- each mark is
pub mark-read : (b : List ℕ) (omit : Bool) (running at : ℕ) (m : Mark) (rest : List ℕ) → GoodMark m → 1 ≤ length rest → drop at b ≡ event_bytes omit running m ++ rest
    → Mark-read b running at m rest
unfolding event_bytes
mark-read b omit running at (Mark.Channel ticks status first second) rest g r e =
    let x = channel-read b status first second rest g.1 g.2 g.3 g.4 g.5 omit running at e in
    record { place = x.place; reads = x.reads; behind = x.behind }
mark-read b omit running at (Mark.Tempo ticks tempo) rest g r e =
    let x = tempo-read b running at tempo rest g.1 e in
    record { place = at + 1 + 1 + 1 + 3; reads = x.0; behind = x.1 }
mark-read b omit running at (Mark.Meta ticks kind bytes) rest g r e =
    let x = other-read b running at kind bytes rest g.1 g.2 g.3 g.4 r e in
    record { place = x.0; reads = x.1; behind = x.2 }
mark-read b omit running at (Mark.Exclusive ticks status bytes) rest g r e =
    let x = exclusive-read b running at status bytes rest g.1 g.2 r e in
    record { place = x.0; reads = x.1; behind = x.2 }

-- ---- 4. The song

-- a song that is in time has these events; one that is not is refused with 11
abbrev Told : Bool → List Event → Song → Type 0
Told true es x = x ≡ Events es
Told false es x = (place : ℕ) × (x ≡ Refused 11 place)

-- an event in front
told-behind : (t : Bool) (e : Event) (es : List Event) (x : Song) → Told t es x → Told t (e ∷ es) (behind_event e x)
told-behind true e es x h = ap (behind_event e) h
told-behind false e es x h = (h.0, ap (behind_event e) h.1)

-- one event: it is past an hour, or the song goes on behind it
step : (n : ℕ) (b : List ℕ) (c : Cursor) (x : Item) (sum place : ℕ) (t : Bool) (es : List Event) → is_bad x ≡ false → meet_at b c ≡ obeyed x c sum place
    → Told t es (song_by n b (acted x c sum place)) → Told (not (is_late c.division sum) && t) es (song_from (suc n) b c)
unfolding obeyed
step n b c x sum place t es good e h = go (is_late c.division sum) refl
  where
    go : (l : Bool) → is_late c.division sum ≡ l → Told (not l && t) es (song_from (suc n) b c)
    go true f = (place, song-is b c n (Met.Fault 11 place) (e ∙ rw (good, f) refl))
    go false f = subst (λ (y : Song). Told t es y) (sym (song-is b c n (acted x c sum place) (e ∙ rw (good, f) refl))) h

-- what is met, by the delta time that is read
met : (b : List ℕ) (c : Cursor) (ticks : ℕ) (rest : List ℕ) → c.end ≡ length b → (q : Quantity-read b c.at ticks rest)
    → meet_at b c ≡ obeyed (item_at b (length b) c.running q.place) c (sum_after c ticks) q.place
met b c ticks rest whole q =
    let edge : edge_of b c ≡ length b = omega arith in
    meet-good b c ticks q.place (subst (λ (n : ℕ). quantity_at b n c.at ≡ quantity ticks q.place) (sym edge) q.reads)
    ∙ ap (λ (n : ℕ). obeyed (item_at b n c.running q.place) c (sum_after c ticks) q.place) edge

-- what a mark does, in front of the song behind it
mark-told : (n : ℕ) (b : List ℕ) (c : Cursor) (m : Mark) (sum from place : ℕ) (t : Bool) (es : List Event)
    → Told t es (song_from n b (carried c sum place (running_behind m) (tempo_behind c.tempo m)))
    → Told t (ringing c.division sum m es) (song_by n b (acted (item_of m place) c sum from))
unfolding acted
mark-told n b c (Mark.Channel ticks status first second) sum from place t es h =
    told-behind t (event_of (record { status = status; first = first; second = second }) (carried c sum place status c.tempo)) es (song_from n b (carried c sum place status c.tempo)) h
mark-told n b c (Mark.Tempo ticks tempo) sum from place t es h = h
mark-told n b c (Mark.Meta ticks kind bytes) sum from place t es h = h
mark-told n b c (Mark.Exclusive ticks status bytes) sum from place t es h = h

-- no mark is a bad event
pub mark-good : (m : Mark) (place : ℕ) → is_bad (item_of m place) ≡ false
mark-good (Mark.Channel ticks status first second) place = refl
mark-good (Mark.Tempo ticks tempo) place = refl
mark-good (Mark.Meta ticks kind bytes) place = refl
mark-good (Mark.Exclusive ticks status bytes) place = refl

-- the ticks of a good mark are a quantity
pub ticks-good : (m : Mark) → GoodMark m → ticks_of m < 268435456
ticks-good (Mark.Channel ticks status first second) g = g.0
ticks-good (Mark.Tempo ticks tempo) g = g.0
ticks-good (Mark.Meta ticks kind bytes) g = g.0
ticks-good (Mark.Exclusive ticks status bytes) g = g.0

-- a quantity has a byte
quantity-some : (n : ℕ) → 1 ≤ length (quantity_bytes n)
unfolding quantity_bytes
quantity-some n =
    some (ltb n 128) (n ∷ []) (cond (ltb n 16384) two (cond (ltb n 2097152) three four)) (omega arith)
    (some (ltb n 16384) two (cond (ltb n 2097152) three four) (omega arith) (some (ltb n 2097152) three four (omega arith) (omega arith)))
  where
    some : (t : Bool) (x y : List ℕ) → 1 ≤ length x → 1 ≤ length y → 1 ≤ length (cond t x y)
    some true x y h k = h
    some false x y h k = k

    two : List ℕ
    two = (128 + n / 128) ∷ n % 128 ∷ []

    three : List ℕ
    three = (128 + n / 16384) ∷ (128 + n / 128 % 128) ∷ n % 128 ∷ []

    four : List ℕ
    four = (128 + n / 2097152) ∷ (128 + n / 16384 % 128) ∷ (128 + n / 128 % 128) ∷ n % 128 ∷ []

-- there are fewer marks than bytes
pub marks-fit : (ms : List Mark) (omits : ℕ → Bool) (k running last : ℕ) → length ms < length (track_bytes omits k running ms last)
unfolding track_bytes
marks-fit [] omits k running last = simp length-append (omega arith)
marks-fit (m ∷ ms) omits k running last =
    simp length-append (omega (arith, quantity-some (ticks_of m), marks-fit ms omits (suc k) (running_behind m) last))

-- the song of a track that is written from a score
song-told : (ms : List Mark) (omits : ℕ → Bool) (k last n : ℕ) (b : List ℕ) (c : Cursor) → c.end ≡ length b → drop c.at b ≡ track_bytes omits k c.running ms last
    → GoodMarks ms → last < 268435456 → length ms < n
    → Told (in_time_from c.division c.tempo c.sum ms last) (rung_from c.division c.tempo c.sum ms) (song_from n b c)
unfolding track_bytes rung_from in_time_from acted
song-told [] omits k last zero b c whole e g l h = absurd (not-suc-le-zero h)
song-told [] omits k last (suc n) b c whole e g l h =
    let q = read-quantity b c.at last (255 ∷ 47 ∷ 0 ∷ []) e l in
    let x = end_read b c.running q.place q.behind in
    let m = met b c last (255 ∷ 47 ∷ 0 ∷ []) whole q ∙ ap (λ (i : Item). obeyed i c (sum_after c last) q.place) x in
    subst (λ (t : Bool). Told t [] (song_from (suc n) b c)) (and-true (not (is_late c.division (sum_after c last))))
    (step n b c Item.End (sum_after c last) q.place true [] refl m refl)
song-told (m ∷ ms) omits k last zero b c whole e g l h = absurd (not-suc-le-zero h)
song-told (m ∷ ms) omits k last (suc n) b c whole e g l h =
    let track = track_bytes omits (suc k) (running_behind m) ms last in
    let rest = event_bytes (omits k) c.running m ++ track in
    let sum = sum_after c (ticks_of m) in
    let tempo = tempo_behind c.tempo m in
    let some : 1 ≤ length track = omega (arith, marks-fit ms omits (suc k) (running_behind m) last) in
    let q = read-quantity b c.at (ticks_of m) rest e (ticks-good m g.0) in
    let r = mark-read b (omits k) c.running q.place m track g.0 some q.behind in
    let x = met b c (ticks_of m) rest whole q ∙ ap (λ (i : Item). obeyed i c sum q.place) r.reads in
    let t = in_time_from c.division tempo sum ms last in
    let es = rung_from c.division tempo sum ms in
    let more = song-told ms omits (suc k) last n b (carried c sum r.place (running_behind m) tempo) whole r.behind g.1 l (le_of_suc-le-suc h) in
    step n b c (item_of m r.place) sum q.place t (ringing c.division sum m es) (mark-good m r.place) x
    (mark-told n b c m sum q.place r.place t es more)

-- ---- 5. The file

-- what the head of a written file says
pub record Written (b : List ℕ) (s : Score) (track : List ℕ) : Type 0 where
  pub size : length b ≡ 22 + length track
  pub name : four_at b 0 ≡ 1297377380
  pub six : four_at b 4 ≡ 6
  pub format : two_at b 8 ≡ 0
  pub one : two_at b 10 ≡ 1
  pub division : two_at b 12 ≡ s.division
  pub track-name : four_at b 14 ≡ 1297379947
  pub track-size : four_at b 18 ≡ length track
  pub behind : drop 22 b ≡ track

-- a number in four bytes is read back
four-back : (n : ℕ) → (n / 16777216 * 256 + n / 65536 % 256) * 65536 + (n / 256 % 256 * 256 + n % 256) ≡ n
four-back n =
    let high : n / 65536 / 256 ≡ n / 16777216 = div-div-eq-div-mul n 65536 256 in
    let low : n / 256 / 256 ≡ n / 65536 = div-div-eq-div-mul n 256 256 in
    let v1 : n / 16777216 * 256 + n / 65536 % 256 ≡ n / 65536 = omega arith in
    rw v1 (omega arith)

-- so it says
pub written : (omits : ℕ → Bool) (s : Score) → Written (file_bytes omits s) s (track_of omits s)
unfolding file_bytes two_bytes four_bytes four_at two_at u8_at
written omits s =
    record {
      size = omega arith;
      name = refl;
      six = refl;
      format = refl;
      one = refl;
      division = omega arith;
      track-name = refl;
      track-size = four-back (length (track_of omits s));
      behind = refl;
    }

-- the head of a written file leads to its track, which ends with the file
written-head : (b : List ℕ) (s : Score) (track : List ℕ) → GoodScore s → Written b s track → head_of b ≡ Header.Track 22 (length b)
unfolding chunk_end
written-head b s track g w =
    let size = w.size in
    let six = w.six in
    let division = w.division in
    let head : chunk_end b 0 ≡ 14 = rw six refl in
    let whole : chunk_end b 14 ≡ length b = rw w.track-size (omega arith) in
    let single = single-head b w.name (omega arith) (omega arith) w.format w.one in
    head-good b single (λ z. absurd (omega (arith, g.low))) (omega (arith, g.high))
    ∙ ap (track_from (length b) b) head
    ∙ track-turn b 14 (Header.Track 22 (chunk_end b 14)) (omega arith) (λ n. track-found b 14 n (omega arith) (omega arith) w.track-name)
    ∙ ap (Header.Track 22) whole

-- the song of a written file
written-told : (omits : ℕ → Bool) (s : Score) → GoodScore s → length (file_bytes omits s) ≤ 65536 → Told (in_time s) (rung s) (events_of (file_bytes omits s))
written-told omits s g short =
    let b = file_bytes omits s in
    let w = written omits s in
    let c : Cursor = record { at = 22; end = length b; running = 0; division = s.division; tempo = 500000; sum = 0 } in
    let size = w.size in
    let few = marks-fit s.marks omits 0 0 s.last in
    let start : start_at b 22 (length b) ≡ c =
    ap (λ (d : ℕ). let x : Cursor = record { at = 22; end = length b; running = 0; division = d; tempo = 500000; sum = 0 } in x) w.division in
    let song = song-told s.marks omits 0 s.last (turns b) b c refl w.behind g.marks g.last (omega arith) in
    subst (λ (x : Song). Told (in_time s) (rung s) x) (sym (events-is b 22 (length b) short (written-head b s (track_of omits s) g w) ∙ ap (song_from (turns b) b) start)) song

-- in time: the file's events are the score's
pub written-is-rung : WrittenIsRung
written-is-rung omits s g short t = subst (λ (x : Bool). Told x (rung s) (events_of (file_bytes omits s))) t (written-told omits s g short)

-- not in time: 11
pub written-too-late : WrittenTooLate
unfolding test_of
written-too-late omits s g short t =
    let r : Told false (rung s) (events_of (file_bytes omits s)) = subst (λ (x : Bool). Told x (rung s) (events_of (file_bytes omits s))) t (written-told omits s g short) in
    ap (λ (x : Song). (verdict x).number) r.1

-- running status is a matter of spelling
pub running-is-spelling : RunningIsSpelling
unfolding test_of
running-is-spelling one other s g short short2 = go (in_time s) refl
  where
    go : (t : Bool) → in_time s ≡ t
        → ((es : List Event) → events_of (file_bytes one s) ≡ Events es → events_of (file_bytes other s) ≡ Events es)
        × ((test_of (file_bytes one s)).number ≡ (test_of (file_bytes other s)).number)
    go true t =
        let x = written-is-rung one s g short t in
        let y = written-is-rung other s g short2 t in
        (λ es e. y ∙ sym x ∙ e, ap (λ (z : Song). (verdict z).number) (x ∙ sym y))
    go false t =
        let x = written-too-late one s g short t in
        let y = written-too-late other s g short2 t in
        (λ es e. let z : ◌≡◌ {A = ℕ} 11 0 = sym x ∙ ap (λ (q : Song). (verdict q).number) e in absurd (omega arith), x ∙ sym y)

-- two songs of which the same is told have the same entries
told-entry : (t : Bool) (es : List Event) (x y : Song) → Told t es x → Told t es y → (k : ℕ) → entry x k ≡ entry y k
told-entry true es x y h g k = ap (λ (z : Song). entry z k) (h ∙ sym g)
told-entry false es x y h g k = ap (λ (z : Song). entry z k) h.1 ∙ sym (ap (λ (z : Song). entry z k) g.1)

-- a reader hands out the same
pub running-reads-the-same : RunningReadsTheSame
running-reads-the-same one other s g short short2 k =
    reads_all (file_bytes one s) k
    ∙ told-entry (in_time s) (rung s) (events_of (file_bytes one s)) (events_of (file_bytes other s)) (written-told one s g short) (written-told other s g short2) k
    ∙ sym (reads_all (file_bytes other s) k)

-- ---- 6. Bytes

-- by a test
all-cond : (t : Bool) (xs ys : List ℕ) → (t ≡ true → AllBytes xs) → (t ≡ false → AllBytes ys) → AllBytes (cond t xs ys)
all-cond true xs ys p q = p refl
all-cond false xs ys p q = q refl

-- a quantity is written in bytes
quantity-bytes : (n : ℕ) → n < 268435456 → AllBytes (quantity_bytes n)
unfolding quantity_bytes
quantity-bytes n h =
    all-cond (ltb n 128) _ _ (λ e. omega (arith, ltb-true n 128 e))
    (λ e.
    all-cond (ltb n 16384) _ _ (λ f. omega (arith, ltb-true n 16384 f))
    (λ f.
    all-cond (ltb n 2097152) _ _ (λ g. omega (arith, ltb-true n 2097152 g))
    (λ g. omega arith)))

-- so is an event
event-bytes : (omit : Bool) (running : ℕ) (m : Mark) → GoodMark m → AllBytes (event_bytes omit running m)
unfolding event_bytes status_bytes data_bytes three_bytes
event-bytes omit running (Mark.Channel ticks status first second) g =
    all_append (status_bytes omit running status) (data_bytes status first second)
    (all-cond (omit && eqb status running) [] (status ∷ []) (λ e. tt) (λ e. (omega (arith, g.2), tt)))
    (all-cond (has_one status) (first ∷ []) (first ∷ second ∷ []) (λ e. (omega (arith, g.3), tt)) (λ e. (omega (arith, g.3), (omega (arith, g.4), tt))))
event-bytes omit running (Mark.Tempo ticks tempo) g = omega (arith, g.1)
event-bytes omit running (Mark.Meta ticks kind bytes) g =
    (omega arith, (omega (arith, g.1), all_append (quantity_bytes (length bytes)) bytes (quantity-bytes (length bytes) g.4) g.5))
event-bytes omit running (Mark.Exclusive ticks status bytes) g =
    (⊎_elim (λ e. omega arith) (λ e. omega arith) g.1, all_append (quantity_bytes (length bytes)) bytes (quantity-bytes (length bytes) g.2) g.3)

-- so is a track
track-bytes : (ms : List Mark) (omits : ℕ → Bool) (k running last : ℕ) → GoodMarks ms → last < 268435456 → AllBytes (track_bytes omits k running ms last)
unfolding track_bytes
track-bytes [] omits k running last g l =
    all_append (quantity_bytes last) (255 ∷ 47 ∷ 0 ∷ []) (quantity-bytes last l) (omega arith)
track-bytes (m ∷ ms) omits k running last g l =
    all_append (quantity_bytes (ticks_of m)) (event_bytes (omits k) running m ++ track_bytes omits (suc k) (running_behind m) ms last) (quantity-bytes (ticks_of m) (ticks-good m g.0))
    (all_append (event_bytes (omits k) running m) (track_bytes omits (suc k) (running_behind m) ms last) (event-bytes (omits k) running m g.0)
    (track-bytes ms omits (suc k) (running_behind m) last g.1 l))

-- so is a file
pub written-in-bytes : WrittenInBytes
unfolding file_bytes two_bytes four_bytes
written-in-bytes omits s g short =
    let n = length (track_of omits s) in
    let few : n ≤ 65536 = omega (arith, (written omits s).size) in
    all_append
    (77 ∷ 84 ∷ 104 ∷ 100 ∷ 0 ∷ 0 ∷ 0 ∷ 6 ∷ 0 ∷ 0 ∷ 0 ∷ 1 ∷ s.division / 256 ∷ s.division % 256 ∷ 77 ∷ 84 ∷ 114 ∷ 107 ∷ four_bytes n)
    (track_of omits s) (omega (arith, g.high)) (track-bytes s.marks omits 0 0 s.last g.marks g.last)

-- ---- 7. A score of which this speaks

-- a name, a bell struck and left; then, at half the pace, a program, a system exclusive event, and another program
abbrev tune : Score
tune =
    record {
      division = 96;
      marks =
          Mark.Meta 0 3 (66 ∷ 101 ∷ 108 ∷ 108 ∷ []) ∷
          Mark.Channel 0 144 60 100 ∷
          Mark.Channel 96 144 60 0 ∷
          Mark.Tempo 0 1000000 ∷
          Mark.Channel 0 192 5 0 ∷
          Mark.Exclusive 0 240 (126 ∷ 127 ∷ 9 ∷ 1 ∷ 247 ∷ []) ∷
          Mark.Channel 16480 192 6 0 ∷ [];
      last = 0;
    }

-- its numbers are good
tune-good : GoodScore tune
unfolding between
tune-good = record { low = omega arith; high = omega arith; marks = marks; last = omega arith }
  where
    never : {n : ℕ} → false ≡ true → n ≡ 0
    never z = absurd (true≢false (sym z))

    exclusive : GoodMark (Mark.Exclusive 0 240 (126 ∷ 127 ∷ 9 ∷ 1 ∷ 247 ∷ []))
    exclusive = (omega arith, inl refl, omega arith, omega arith)

    program : (ticks first : ℕ) → (ticks < 268435456) × (first < 128) → GoodMark (Mark.Channel ticks 192 first 0)
    program ticks first h = (h.0, omega arith, omega arith, h.1, omega arith, λ z. refl)

    strike : (ticks second : ℕ) → (ticks < 268435456) × (second < 128) → GoodMark (Mark.Channel ticks 144 60 second)
    strike ticks second h = (h.0, omega arith, omega arith, omega arith, h.1, never)

    later : GoodMarks (Mark.Channel 0 192 5 0 ∷ Mark.Exclusive 0 240 (126 ∷ 127 ∷ 9 ∷ 1 ∷ 247 ∷ []) ∷ Mark.Channel 16480 192 6 0 ∷ [])
    later = (program 0 5 (omega arith), (exclusive, (program 16480 6 (omega arith), tt)))

    marks : GoodMarks tune.marks
    marks = (omega arith, (strike 0 100 (omega arith), (strike 96 0 (omega arith), (omega arith, later))))

-- its events
abbrev tune-events : List Event
tune-events =
    record { frame = 0; status = 144; first = 60; second = 100 } ∷
    record { frame = 22050; status = 144; first = 60; second = 0 } ∷
    record { frame = 22050; status = 192; first = 5; second = 0 } ∷
    record { frame = 7592550; status = 192; first = 6; second = 0 } ∷ []

-- what the definitions say of it, computed: one status byte can be left out
record Tune-shown : Type 0 where
  written_out : length (file_bytes (λ k. false) tune) ≡ 65
  left_out : length (file_bytes (λ k. true) tune) ≡ 64
  in-time : in_time tune ≡ true
  events : rung tune ≡ tune-events

-- so it is
tune-shown : Tune-shown
unfolding file_bytes track_bytes event_bytes quantity_bytes status_bytes data_bytes two_bytes three_bytes four_bytes between in_time_from rung_from frame_of
tune-shown = record { written_out = refl; left_out = refl; in-time = refl; events = refl }

-- its two files, and their events
pub record Two-files : Type 0 where
  pub written_out : events_of (file_bytes (λ k. false) tune) ≡ Events tune-events
  pub left_out : events_of (file_bytes (λ k. true) tune) ≡ Events tune-events

-- the one by the law of written files, the other by that of spelling
pub two-files : Two-files
two-files =
    let long : length (file_bytes (λ k. false) tune) ≤ 65536 = omega (arith, tune-shown.written_out) in
    let short : length (file_bytes (λ k. true) tune) ≤ 65536 = omega (arith, tune-shown.left_out) in
    let x = written-is-rung (λ k. false) tune tune-good long tune-shown.in-time ∙ ap Events tune-shown.events in
    record { written_out = x; left_out = (running-is-spelling (λ k. false) (λ k. true) tune tune-good long short).0 tune-events x }

-- a score that goes on past an hour, by half a second
abbrev slow : Score
slow = record { division = 1; marks = []; last = 7201 }

-- its numbers are good, and it is not in time
record Slow-shown : Type 0 where
  good : GoodScore slow
  short : length (file_bytes (λ k. true) slow) ≡ 27
  late : in_time slow ≡ false

-- so it is
slow-shown : Slow-shown
unfolding file_bytes track_bytes quantity_bytes two_bytes four_bytes in_time_from
slow-shown =
    record { good = record { low = omega arith; high = omega arith; marks = tt; last = omega arith }; short = refl; late = refl }

-- it is refused
pub slow-refused : (test_of (file_bytes (λ k. true) slow)).number ≡ 11
slow-refused = written-too-late (λ k. true) slow slow-shown.good (omega (arith, slow-shown.short)) slow-shown.late
