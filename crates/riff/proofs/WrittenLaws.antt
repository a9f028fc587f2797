-- A file that was written from its parts is found with them.
use mathlib.Core.Bool.{true, false}
use mathlib.Core.List.{List, [], ◌∷◌, ◌++◌, append_assoc, append-nil}
use mathlib.Core.Path.{◌≡◌, refl, sym, ◌∙◌, ap}
use Prim.Native.Nat.{ℕ, ◌+◌, ◌-◌, ◌*◌, ◌/◌, ◌%◌, ◌<◌, ◌≤◌}
use native.Mathlib.Nat.{div-add-mod', div-div-eq-div-mul, mod-eq_of_lt}
use native.Mathlib.Omega.{arith}
use borrow.Author.Tests.{eqb-true, eqb-false}
use lib.Dec.{eqb, lit<}
use lib.ListN.{length, take, drop, get_or, length-append, get_or-append}
use lib.Seq.{get_or-append-add, take_at, drop_at}
use Rattle.arith.specs.Bytes.{u8_at, u32_at}
use Rattle.riff.specs.Chunks.{list_name, size_at, is_whole, is_named, next_at, stop_at, first_at}
use Rattle.riff.specs.declared.form.Span.{Span}
use Rattle.riff.specs.Form.{riff_name, font_type, bank_type, data_type, samples_name, list_body, chunk_body, bank_at, data_at, data_span, samples_at, found_in, find_of}
use Rattle.riff.specs.Written.{four_low_first, Chunk, pad_of, chunk_bytes, chunks_bytes, list_of, file_of, GoodChunks, NoneIs, OfType, Sampled, Among, Written, bank_part, samples_part, WrittenIsFound, PartsAsWritten}
use Rattle.riff.proofs.ChunksLaws
use Rattle.riff.proofs.FormLaws
use Rattle.riff.proofs.WalkLaws

-- a number out of its four bytes
pub from-four : (n : ℕ) → n < 4294967296 → n % 256 + n / 256 % 256 * 256 + n / 65536 % 256 * 65536 + n / 16777216 % 256 * 16777216 ≡ n
from-four n h =
    let x = n / 256 in
    let y = x / 256 in
    let z = y / 256 in
    let two : n / 65536 ≡ y = sym (div-div-eq-div-mul n 256 256) in
    let three : n / 16777216 ≡ z = sym (div-div-eq-div-mul n 256 65536) ∙ sym (div-div-eq-div-mul x 256 256) in
    let small : z % 256 ≡ z = mod-eq_of_lt (omega arith) in
    rw (two, three, small) (joined n x y z (n % 256) (x % 256) (y % 256) (div-add-mod' n 256) (div-add-mod' x 256) (div-add-mod' y 256))
  where
    joined : (n x y z a b c : ℕ) → x * 256 + a ≡ n → y * 256 + b ≡ x → z * 256 + c ≡ y → a + b * 256 + c * 65536 + z * 16777216 ≡ n
    joined n x y z a b c p q r = omega arith

-- bytes behind others are read where they begin
pub shift : (pre xs : List ℕ) (k : ℕ) → u32_at (pre ++ xs) (length pre + k) ≡ u32_at xs k
unfolding u32_at u8_at
shift pre xs k =
    let at : (j : ℕ) → get_or (pre ++ xs) (length pre + k + j) 0 ≡ get_or xs (k + j) 0 = λ j. rw (← get_or-append-add pre xs (k + j) 0) (ap (λ (i : ℕ). get_or (pre ++ xs) i 0) (omega arith)) in
    let zero-at : get_or (pre ++ xs) (length pre + k) 0 ≡ get_or xs k 0 = get_or-append-add pre xs k 0 in
    rw (zero-at, at 1, at 2, at 3) refl

-- .. at any place that is so far behind the others
pub shift-to : (pre xs : List ℕ) (i k : ℕ) → i ≡ length pre + k → u32_at (pre ++ xs) i ≡ u32_at xs k
shift-to pre xs i k e = rw e (shift pre xs k)

-- bytes in front of others are read where they are
pub front : (xs ys : List ℕ) → 4 ≤ length xs → u32_at (xs ++ ys) 0 ≡ u32_at xs 0
unfolding u32_at u8_at
front xs ys h =
    rw (get_or-append xs ys 0 0 (omega arith), get_or-append xs ys 0 1 (omega arith), get_or-append xs ys 0 2 (omega arith), get_or-append xs ys 0 3 (omega arith)) refl

-- four bytes in front of others
pub read-four : (n : ℕ) (xs : List ℕ) → n < 4294967296 → u32_at (four_low_first n ++ xs) 0 ≡ n
unfolding four_low_first u32_at u8_at
read-four n xs h = from-four n h

-- their length
pub four-long : (n : ℕ) → length (four_low_first n) ≡ 4
unfolding four_low_first
four-long n = refl

-- the pad byte's
pub pad-long : (n : ℕ) → length (pad_of n) ≡ n % 2
unfolding pad_of
pad-long n =
    ChunksLaws.by-test (eqb (n % 2) 1) (λ e. rw e (sym (eqb-true _ _ e)))
    (λ e. let h = eqb-false (n % 2) 1 e in rw e (omega arith))

-- a chunk's
pub chunk-long : (c : Chunk) → length (chunk_bytes c) ≡ 8 + length c.body + length c.body % 2
unfolding chunk_bytes
chunk-long c = simp (length-append, four-long, pad-long) (omega arith)

-- a chunk stands at a place: its name, its size, and its type where it has room for one
pub record Headed (b : List ℕ) (at : ℕ) (c : Chunk) : Type 0 where
  pub name : u32_at b at ≡ c.name
  pub size : u32_at b (at + 4) ≡ length c.body
  pub typed : 4 ≤ length c.body → u32_at b (at + 8) ≡ u32_at c.body 0

-- a chunk that was written behind other bytes stands there
pub headed : (pre rest : List ℕ) (c : Chunk) → c.name < 4294967296 → length c.body < 4294967296 → Headed (pre ++ (chunk_bytes c ++ rest)) (length pre) c
unfolding chunk_bytes
headed pre rest c n s =
    let pad = pad_of (length c.body) in
    let one = four_low_first c.name in
    let two = four_low_first (length c.body) in
    let all = one ++ (two ++ (c.body ++ pad)) ++ rest in
    let cut : all ≡ one ++ (two ++ (c.body ++ (pad ++ rest))) = simp append_assoc in
    let at : (i k : ℕ) → i ≡ length pre + k → u32_at (pre ++ all) i ≡ u32_at (one ++ (two ++ (c.body ++ (pad ++ rest)))) k = λ i k e. shift-to pre all i k e ∙ ap (λ (l : List ℕ). u32_at l k) cut in
    let past-name = shift-to one (two ++ (c.body ++ (pad ++ rest))) in
    let past-size = shift-to two (c.body ++ (pad ++ rest)) in
    let one-long = four-long c.name in
    let two-long = four-long (length c.body) in
    record {
      name = at (length pre) 0 (omega arith) ∙ read-four c.name (two ++ (c.body ++ (pad ++ rest))) n;
      size = at (length pre + 4) 4 (omega arith) ∙ past-name 4 0 (omega arith) ∙ read-four (length c.body) (c.body ++ (pad ++ rest)) s;
      typed = λ h. at (length pre + 8) 8 (omega arith) ∙ past-name 8 4 (omega arith) ∙ past-size 4 0 (omega arith) ∙ front c.body (pad ++ rest) h;
    }

module _ (b : List ℕ) (end at : ℕ) (c : Chunk) (h : Headed b at c) where
  -- it is whole in front of an end that is not in front of its own
  pub headed-whole : (c.name ≡ list_name → 4 ≤ length c.body) → at + length (chunk_bytes c) ≤ end → is_whole b end at ≡ true
  headed-whole typed room =
      WalkLaws.of-whole b end at (record {
        body-in = omega (arith, chunk-long c, h.size);
        typed = λ e. rw h.size (typed (sym h.name ∙ e));
      })

  -- the next chunk begins behind it
  pub headed-next : at + length (chunk_bytes c) ≤ end → next_at b end at ≡ at + length (chunk_bytes c)
  unfolding next_at
  headed-next room = rw h.size (omega (arith, chunk-long c))

  -- it is a list of a type
  pub headed-list : (kind : ℕ) → (c.name ≡ list_name → 4 ≤ length c.body) → OfType kind c → is_named b list_name kind at ≡ true
  headed-list kind typed o = WalkLaws.list-of b kind at (h.name ∙ o.0, h.typed (typed o.0) ∙ o.1)

  -- or none
  pub headed-other : (kind : ℕ) → (c.name ≡ list_name → 4 ≤ length c.body) → (OfType kind c → ⊥) → is_named b list_name kind at ≡ false
  headed-other kind typed o =
      ChunksLaws.by-test (is_named b list_name kind at)
      (λ e. let k = WalkLaws.list-to b kind at e in
      let name = sym h.name ∙ k.0 in
      absurd (o (name, sym (h.typed (typed name)) ∙ k.1)))
      (λ e. e)

  -- it is a chunk of samples
  pub headed-samples : Sampled c → is_named b samples_name 0 at ≡ true
  headed-samples o = WalkLaws.samples-of b at (h.name ∙ o)

  -- or none
  pub headed-silent : (Sampled c → ⊥) → is_named b samples_name 0 at ≡ false
  headed-silent o = ChunksLaws.by-test (is_named b samples_name 0 at) (λ e. absurd (o (sym h.name ∙ WalkLaws.samples-to b at e))) (λ e. e)

-- a body is not longer than its chunk
pub body-small : (c : Chunk) (n : ℕ) → length (chunk_bytes c) ≤ n → n < 4294967296 → length c.body < 4294967296
body-small c n h k = omega (arith, chunk-long c)

-- one more chunk in front of those that are walked
pub behind-one : (b pre post : List ℕ) (c : Chunk) (cs : List Chunk) → b ≡ pre ++ (chunks_bytes (c ∷ cs) ++ post)
    → (b ≡ pre ++ (chunk_bytes c ++ (chunks_bytes cs ++ post))) × (b ≡ (pre ++ chunk_bytes c) ++ (chunks_bytes cs ++ post))
unfolding chunks_bytes
behind-one b pre post c cs e = (e ∙ simp append_assoc, e ∙ simp append_assoc)

-- their length
pub more-long : (c : Chunk) (cs : List Chunk) → length (chunks_bytes (c ∷ cs)) ≡ length (chunk_bytes c) + length (chunks_bytes cs)
unfolding chunks_bytes
more-long c cs = length-append (chunk_bytes c) (chunks_bytes cs)

-- a walk over chunks that were written comes to their end
pub stop-written : (cs : List Chunk) (b pre post : List ℕ) (end at : ℕ) → b ≡ pre ++ (chunks_bytes cs ++ post) → at ≡ length pre
    → end ≡ at + length (chunks_bytes cs) → length (chunks_bytes cs) < 4294967296 → GoodChunks cs → stop_at b end at ≡ end
unfolding chunks_bytes
stop-written [] b pre post end at e a n s g =
    let z : at ≡ end = omega (arith, n) in
    ChunksLaws.stop-done b end at (ChunksLaws.past-not-whole b end at (omega arith)) ∙ z
stop-written (c ∷ cs) b pre post end at e a n s g =
    let l = more-long c cs in
    let k = behind-one b pre post c cs e in
    let room : at + length (chunk_bytes c) ≤ end = omega (arith, l, n) in
    let h : Headed b at c = rw (k.0, a) (headed pre (chunks_bytes cs ++ post) c g.0.0 (body-small c _ (omega (arith, l)) s)) in
    let whole = headed-whole b end at c h g.0.1 room in
    let next = headed-next b end at c h room in
    ChunksLaws.stop-further b end at whole
    ∙ stop-written cs b (pre ++ chunk_bytes c) post end (next_at b end at) k.1 (next ∙ ap (λ (i : ℕ). i + length (chunk_bytes c)) a ∙ sym (length-append pre (chunk_bytes c)))
    (omega (arith, l, n, next)) (omega (arith, l, s)) g.1

-- a search among them finds the first of its kind
pub first-written : (Is : Chunk → Type 0) (name kind : ℕ) (front : List Chunk) (c : Chunk) (behind : List Chunk) (b pre post : List ℕ) (end at : ℕ)
    → ((at : ℕ) (d : Chunk) → Headed b at d → (d.name ≡ list_name → 4 ≤ length d.body) → (Is d → ⊥) → is_named b name kind at ≡ false)
    → ((at : ℕ) → Headed b at c → is_named b name kind at ≡ true) → b ≡ pre ++ (chunks_bytes (front ++ (c ∷ behind)) ++ post) → at ≡ length pre
    → end ≡ at + length (chunks_bytes (front ++ (c ∷ behind))) → length (chunks_bytes (front ++ (c ∷ behind))) < 4294967296
    → GoodChunks (front ++ (c ∷ behind)) → NoneIs Is front → first_at b end name kind at ≡ at + length (chunks_bytes front)
unfolding chunks_bytes
first-written Is name kind [] c behind b pre post end at other is e a n s g none =
    let l = more-long c behind in
    let k = behind-one b pre post c behind e in
    let h : Headed b at c = rw (k.0, a) (headed pre (chunks_bytes behind ++ post) c g.0.0 (body-small c _ (omega (arith, l)) s)) in
    let whole = headed-whole b end at c h g.0.1 (omega (arith, l, n)) in
    let z : at ≡ at + 0 = omega arith in
    ChunksLaws.first-here b end at name kind whole (is at h) ∙ z
first-written Is name kind (d ∷ front) c behind b pre post end at other is e a n s g none =
    let cs = front ++ (c ∷ behind) in
    let l = more-long d cs in
    let k = behind-one b pre post d cs e in
    let room : at + length (chunk_bytes d) ≤ end = omega (arith, l, n) in
    let h : Headed b at d = rw (k.0, a) (headed pre (chunks_bytes cs ++ post) d g.0.0 (body-small d _ (omega (arith, l)) s)) in
    let whole = headed-whole b end at d h g.0.1 room in
    let next = headed-next b end at d h room in
    let z : next_at b end at + length (chunks_bytes front) ≡ at + length (chunks_bytes (d ∷ front)) = omega (arith, next, more-long d front) in
    ChunksLaws.first-further b end at name kind whole (other at d h g.0.1 none.0)
    ∙ first-written Is name kind front c behind b (pre ++ chunk_bytes d) post end (next_at b end at) other is k.1
    (next ∙ ap (λ (i : ℕ). i + length (chunk_bytes d)) a ∙ sym (length-append pre (chunk_bytes d))) (omega (arith, l, n, next)) (omega (arith, l, s)) g.1 none.1
    ∙ z

-- ---- what a file holds, and where

-- bytes stand at a place
pub record Held (b : List ℕ) (at : ℕ) (xs : List ℕ) : Type 0 where
  pub pre : List ℕ
  pub post : List ℕ
  pub cut : b ≡ pre ++ (xs ++ post)
  pub place : at ≡ length pre

-- a chunk among others
pub split : (front : List Chunk) (c : Chunk) (behind : List Chunk) → chunks_bytes (front ++ (c ∷ behind)) ≡ chunks_bytes front ++ (chunk_bytes c ++ chunks_bytes behind)
unfolding chunks_bytes
split [] c behind = refl
split (d ∷ front) c behind = ap (λ (l : List ℕ). chunk_bytes d ++ l) (split front c behind) ∙ sym (append_assoc (chunk_bytes d) (chunks_bytes front) (chunk_bytes c ++ chunks_bytes behind))

-- their length
pub split-long : (front : List Chunk) (c : Chunk) (behind : List Chunk)
    → length (chunks_bytes (front ++ (c ∷ behind))) ≡ length (chunks_bytes front) + (length (chunk_bytes c) + length (chunks_bytes behind))
split-long front c behind = ap length (split front c behind) ∙ simp length-append

module _ (b : List ℕ) (at : ℕ) (front : List Chunk) (c : Chunk) (behind : List Chunk) (h : Held b at (chunks_bytes (front ++ (c ∷ behind)))) where
  -- it stands behind those in front
  pub held_one : Held b (at + length (chunks_bytes front)) (chunk_bytes c)
  held_one =
      record {
        pre = h.pre ++ chunks_bytes front;
        post = chunks_bytes behind ++ h.post;
        cut = h.cut ∙ ap (λ (l : List ℕ). h.pre ++ (l ++ h.post)) (split front c behind) ∙ simp append_assoc;
        place = ap (λ (i : ℕ). i + length (chunks_bytes front)) h.place ∙ sym (length-append h.pre (chunks_bytes front));
      }

  -- with its head
  pub held-head : c.name < 4294967296 → length c.body < 4294967296 → Headed b (at + length (chunks_bytes front)) c
  held-head n s = rw (held_one.cut, held_one.place) (headed held_one.pre held_one.post c n s)

  -- and its body
  pub held-body : Held b (at + length (chunks_bytes front) + 8) c.body
  unfolding chunk_bytes
  held-body =
      record {
        pre = held_one.pre ++ (four_low_first c.name ++ four_low_first (length c.body));
        post = pad_of (length c.body) ++ held_one.post;
        cut = held_one.cut ∙ simp append_assoc;
        place = simp (length-append, four-long) (omega (arith, held_one.place));
      }

-- behind a type
pub held-rest : (b : List ℕ) (at kind : ℕ) (xs : List ℕ) → Held b at (four_low_first kind ++ xs) → Held b (at + 4) xs
held-rest b at kind xs h =
    record {
      pre = h.pre ++ four_low_first kind;
      post = h.post;
      cut = h.cut ∙ simp append_assoc;
      place = simp (length-append, four-long) (omega (arith, h.place));
    }

-- what stands at a place is read there
pub held-part : (b : List ℕ) (at i : ℕ) (xs : List ℕ) → Held b at xs → i ≡ at → take (length xs) (drop i b) ≡ xs
held-part b at i xs h e =
    rw (h.cut, drop_at h.pre (xs ++ h.post) i (sym (e ∙ h.place))) (take_at xs h.post (length xs) refl)

-- a file's chunks
pub file-held : (cs : List Chunk) → Held (file_of cs) 12 (chunks_bytes cs)
unfolding file_of
file-held cs =
    record {
      pre = four_low_first riff_name ++ (four_low_first (4 + length (chunks_bytes cs)) ++ four_low_first font_type);
      post = [];
      cut = simp (append_assoc, append-nil);
      place = simp (length-append, four-long) refl;
    }

-- its first numbers and its length
pub record FileHead (cs : List Chunk) : Type 0 where
  pub riff : u32_at (file_of cs) 0 ≡ riff_name
  pub size : size_at (file_of cs) 0 ≡ 4 + length (chunks_bytes cs)
  pub font : u32_at (file_of cs) 8 ≡ font_type
  pub long : length (file_of cs) ≡ 12 + length (chunks_bytes cs)

-- they are read back
pub file-head : (cs : List Chunk) → 4 + length (chunks_bytes cs) < 4294967296 → FileHead cs
unfolding file_of
file-head cs h =
    let n = 4 + length (chunks_bytes cs) in
    let one-long = four-long riff_name in
    let two-long = four-long n in
    let rest = four_low_first font_type ++ chunks_bytes cs in
    record {
      riff = read-four riff_name (four_low_first n ++ rest) (lit< tt);
      size = shift-to (four_low_first riff_name) (four_low_first n ++ rest) 4 0 (omega arith) ∙ read-four n rest h;
      font = shift-to (four_low_first riff_name) (four_low_first n ++ rest) 8 4 (omega arith) ∙ shift-to (four_low_first n) rest 4 0 (omega arith) ∙ read-four font_type (chunks_bytes cs) (lit< tt);
      long = simp (length-append, four-long) (omega arith);
    }

-- some chunks, and one of them by itself
pub good-one : (front : List Chunk) (c : Chunk) (behind : List Chunk) → GoodChunks (front ++ (c ∷ behind)) → (c.name < 4294967296) × (c.name ≡ list_name → 4 ≤ length c.body)
good-one [] c behind g = g.0
good-one (d ∷ front) c behind g = good-one front c behind g.1

-- a list among chunks that stand at a place is found, with its body
pub record ListFound (b : List ℕ) (at end kind : ℕ) (front : List Chunk) (body : List ℕ) : Type 0 where
  pub first : first_at b end list_name kind at ≡ at + length (chunks_bytes front)
  pub room : at + length (chunks_bytes front) + 12 + length body ≤ end
  pub size : size_at b (at + length (chunks_bytes front)) ≡ 4 + length body
  pub held : Held b (at + length (chunks_bytes front) + 12) body

-- .. and a chunk of samples
pub record SamplesFound (b : List ℕ) (at end : ℕ) (front : List Chunk) (body : List ℕ) : Type 0 where
  pub first : first_at b end samples_name 0 at ≡ at + length (chunks_bytes front)
  pub room : at + length (chunks_bytes front) + 8 + length body ≤ end
  pub size : size_at b (at + length (chunks_bytes front)) ≡ length body
  pub held : Held b (at + length (chunks_bytes front) + 8) body

-- chunks that stand at a place: a walk over them, and a search for the first of a kind
module _ (b : List ℕ) (at end : ℕ) (cs : List Chunk) (h : Held b at (chunks_bytes cs)) (n : end ≡ at + length (chunks_bytes cs)) (s : length (chunks_bytes cs) < 4294967296) (g : GoodChunks cs) where
  -- the walk comes to their end
  pub held-stop : stop_at b end at ≡ end
  held-stop = stop-written cs b h.pre h.post end at h.cut h.place n s g

  -- a list of a type is found, and stands there
  pub held-list : (kind : ℕ) (front : List Chunk) (body : List ℕ) → kind < 4294967296 → Among cs (OfType kind) front (list_of kind body) → ListFound b at end kind front body
  held-list kind front body k a =
      let c = list_of kind body in
      let l = split-long front c a.behind in
      let e = ap (λ (x : List Chunk). length (chunks_bytes x)) a.cut in
      let long : length (four_low_first kind ++ body) ≡ 4 + length body = simp (length-append, four-long) in
      let w : length (chunk_bytes c) ≡ 8 + length (four_low_first kind ++ body) + length (four_low_first kind ++ body) % 2 = chunk-long c in
      let held : Held b at (chunks_bytes (front ++ (c ∷ a.behind))) = rw a.cut at h in
      let good : GoodChunks (front ++ (c ∷ a.behind)) = rw a.cut at g in
      let is : OfType kind c = (refl, read-four kind body k) in
      let one = good-one front c a.behind good in
      let head = held-head b at front c a.behind held one.0 (omega (arith, l, e, w)) in
      let rest = held-rest b _ kind body (held-body b at front c a.behind held) in
      record {
        first = first-written (OfType kind) list_name kind front c a.behind b held.pre held.post end at
            (λ i d x t o. headed-other b end i d x kind t o) (λ i x. headed-list b end i c x kind one.1 is) held.cut held.place (n ∙ ap (λ (i : ℕ). at + i) e) (omega (arith, e)) good a.none;
        room = omega (arith, l, e, w, long, n);
        size = head.size ∙ long;
        held = record { pre = rest.pre; post = rest.post; cut = rest.cut; place = let p = rest.place in omega (arith, p) };
      }

  -- a chunk of samples is found, and stands there
  pub held-samples : (front : List Chunk) (body : List ℕ) → Among cs Sampled front (record { name = samples_name; body = body }) → SamplesFound b at end front body
  held-samples front body a =
      let c : Chunk = record { name = samples_name; body = body } in
      let l = split-long front c a.behind in
      let e = ap (λ (x : List Chunk). length (chunks_bytes x)) a.cut in
      let w : length (chunk_bytes c) ≡ 8 + length body + length body % 2 = chunk-long c in
      let held : Held b at (chunks_bytes (front ++ (c ∷ a.behind))) = rw a.cut at h in
      let good : GoodChunks (front ++ (c ∷ a.behind)) = rw a.cut at g in
      let one = good-one front c a.behind good in
      let head = held-head b at front c a.behind held one.0 (omega (arith, l, e, w)) in
      record {
        first = first-written Sampled samples_name 0 front c a.behind b held.pre held.post end at
            (λ i d x t o. headed-silent b end i d x o) (λ i x. headed-samples b end i c x refl) held.cut held.place (n ∙ ap (λ (i : ℕ). at + i) e) (omega (arith, e)) good a.none;
        room = omega (arith, l, e, w, n);
        size = head.size;
        held = held-body b at front c a.behind held;
      }

-- a list's body by its size
pub list-part : (b : List ℕ) (p n : ℕ) → size_at b p ≡ 4 + n → list_body b p ≡ record { at = p + 12; size = n }
unfolding list_body
list-part b p n e = let z : size_at b p - 4 ≡ n = omega (arith, e) in rw z refl

-- a chunk's
pub chunk_part : (b : List ℕ) (p n : ℕ) → size_at b p ≡ n → chunk_body b p ≡ record { at = p + 8; size = n }
unfolding chunk_body
chunk_part b p n e = rw e refl

module _ (cs inner bank-front data-front samples-front : List Chunk) (bank samples : List ℕ) (w : Written cs inner bank-front data-front samples-front bank samples) where
  -- the file, its end, the place of its sdta list and that list's end
  abbrev b : List ℕ
  b = file_of cs

  abbrev end : ℕ
  end = 12 + length (chunks_bytes cs)

  abbrev d : ℕ
  d = 12 + length (chunks_bytes data-front)

  abbrev edge : ℕ
  edge = d + 12 + length (chunks_bytes inner)

  few : length (chunks_bytes cs) < 4294967296
  few = omega (arith, w.small)

  the-bank : ListFound b 12 end bank_type bank-front bank
  the-bank = held-list b 12 end cs (file-held cs) refl few w.good bank_type bank-front bank (lit< tt) w.bank-in

  the_data : ListFound b 12 end data_type data-front (chunks_bytes inner)
  the_data = held-list b 12 end cs (file-held cs) refl few w.good data_type data-front (chunks_bytes inner) (lit< tt) w.data-in

  few-inner : length (chunks_bytes inner) < 4294967296
  few-inner = omega (arith, w.small, the_data.room)

  the-samples : SamplesFound b (d + 12) edge samples-front samples
  the-samples = held-samples b (d + 12) edge inner the_data.held refl few-inner w.good-inner samples-front samples w.samples-in

  -- the span of the sdta list
  span-written : data_span b end ≡ record { from = d + 12; end = edge }
  unfolding data_at
  span-written =
      let e = the_data.first in
      let z : d + 8 + size_at b d ≡ edge = omega (arith, the_data.size) in
      FormLaws.span-some b end (λ x. omega (arith, sym e ∙ x, the_data.room)) ∙ rw (e, z) refl

  -- the form
  form-written : find_of b ≡ found_in b end (data_span b end)
  form-written =
      let k = file-head cs w.small in
      let e : 8 + size_at b 0 ≡ end = omega (arith, k.size) in
      FormLaws.find-form b k.riff k.font (omega (arith, k.size)) (omega (arith, k.size, k.long)) ∙ ap (λ (x : ℕ). found_in b x (data_span b x)) e

  -- what it holds
  parts-written : find_of b ≡ record { number = 0; place = 0; bank = bank_part bank-front bank; samples = samples_part data-front samples-front samples }
  unfolding bank_at samples_at
  parts-written =
      let s : Span = record { from = d + 12; end = edge } in
      let inner-stop = held-stop b (d + 12) edge inner the_data.held refl few-inner w.good-inner in
      let outer-stop = held-stop b 12 end cs (file-held cs) refl few w.good in
      let p = the-bank.first in
      let q = the-samples.first in
      form-written ∙ ap (λ (x : Span). found_in b end x) span-written
      ∙ FormLaws.in-found b end s inner-stop outer-stop (λ x. omega (arith, sym q ∙ x, the-samples.room)) (λ x. omega (arith, sym p ∙ x, the-bank.room))
      ∙ rw (p, q, list-part b _ _ the-bank.size, chunk_part b _ _ the-samples.size) refl

pub written-is-found : WrittenIsFound
written-is-found cs inner bank-front data-front samples-front bank samples w = parts-written cs inner bank-front data-front samples-front bank samples w

pub parts-as-written : PartsAsWritten
parts-as-written cs inner bank-front data-front samples-front bank samples w = (
  held-part (file_of cs) _ _ bank (the-bank cs inner bank-front data-front samples-front bank samples w).held refl,
  held-part (file_of cs) _ _ samples (the-samples cs inner bank-front data-front samples-front bank samples w).held refl,
)
