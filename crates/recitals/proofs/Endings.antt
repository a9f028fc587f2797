-- A song whose every strike has its note-off ends in silence.
use Prim.Native.Nat.{ℕ, zero, suc, ◌+◌, ◌%◌, ◌<◌, ◌≤◌}
use mathlib.Core.Bool.{Bool, true, false, cond}
use mathlib.Core.List.{List, [], ◌∷◌, ◌++◌, append_assoc}
use mathlib.Core.Path.{◌≡◌, refl, sym, ap, ◌∙◌, subst}
use native.Mathlib.Nat.{le_trans, le_refl, add-le-add}
use native.Mathlib.Omega.{arith}
use borrow.Author.Tests.{lt-leb}
use lib.Dec.{leb, lit<}
use lib.IntN.{ℤ}
use lib.ListN.{length}
use Rattle.smf.specs.declared.Event.{Event}
use Rattle.smf.specs.Songs.{turns, test_of}
use Rattle.voice.specs.declared.Voice.{Voice}
use Rattle.voice.specs.declared.Channel.{Channel}
use Rattle.state.specs.declared.Engine.{Engine}
use Rattle.state.specs.Channels.{channel_at}
use Rattle.state.specs.Quiet.{fresh}
use Rattle.state.specs.Slots.{slot_at}
use Rattle.events.specs.Keys.{held_key, pedal_down}
use Rattle.player.specs.declared.Player.{Player}
use Rattle.player.specs.declared.Tally.{Tally}
use Rattle.player.specs.Cues.{song_over, idle}
use Rattle.player.specs.Playing.{opened, forward, prepared}
use Rattle.promises.specs.Calls.{Call, run, voice_in, frames_run, history, seats}
use Rattle.promises.specs.Night.{strikes, leaves, struck_after, NotHeld, AllReleased, longest_release}
use Rattle.promises.specs.Pedal.{MarksUnderPedal}
use Rattle.promises.proofs.Banks.{came}
use Rattle.promises.proofs.EachSlot.{never}
use Rattle.promises.proofs.Kept.{run-keeps, fresh-sized}
use Rattle.promises.proofs.Night.{holds, key-released, silent-in-time, releases-end}
use Rattle.promises.proofs.Pedal.{no-mark}
use Rattle.promises.proofs.Voices.{from-fresh}
use Rattle.recitals.specs.Turns.{Turn, Start, next_turn, hush_calls, fresh_calls, call_of, one_frame, frame_calls, run_turns, calls_turns}
use Rattle.recitals.specs.Recital.{events_at, frame_by_frame, calls_for, recital, Recited}
use Rattle.recitals.specs.Endings.{pedal_after, PlayedOut, SongIsReleased, SongEndsInSilence, SongEndsAlways}
use Rattle.recitals.proofs.Acts.{run-append, frames-go}
use Rattle.recitals.proofs.Turns.{turns-clock, idle-run}
use Rattle.recitals.proofs.Hushes.{many-channels}
use Rattle.recitals.proofs.Borders.{channels-begin-fresh, start-releases}
use Rattle.recitals.proofs.Recital.{up_none, song-each, start-calls, plays-give, plays-clear, each-once, song-is-played}
use Rattle.recitals.proofs.Pedals.{recital-pedal}

-- ---- keys through a song

struck-append : (c k : ℕ) (b : Bool) (xs ys : List Call) → struck_after c k b (xs ++ ys) ≡ struck_after c k (struck_after c k b xs) ys
unfolding struck_after
struck-append c k b [] ys = refl
struck-append c k b (x ∷ xs) ys = struck-append c k (cond (strikes c k x) true (cond (leaves c k x) false b)) xs ys

calls-append : (bank : List ℕ) (ram rom : List ℤ) (us vs : List Event) → calls_for bank ram rom (us ++ vs) ≡ calls_for bank ram rom us ++ calls_for bank ram rom vs
unfolding calls_for
calls-append bank ram rom [] vs = refl
calls-append bank ram rom (u ∷ us) vs =
    ap (λ (xs : List Call). call_of bank ram rom u ++ xs) (calls-append bank ram rom us vs)
    ∙ sym (append_assoc (call_of bank ram rom u) (calls_for bank ram rom us) (calls_for bank ram rom vs))

-- renders strike and leave no key
recital-struck : (bank : List ℕ) (ram rom : List ℤ) (c k : ℕ) (b : Bool) (vs : List Event) (began n : ℕ)
    → struck_after c k b (recital bank ram rom vs began n) ≡ struck_after c k b (calls_for bank ram rom (frame_by_frame n vs))
unfolding recital frame_by_frame struck_after calls_for
recital-struck bank ram rom c k b vs began zero = refl
recital-struck bank ram rom c k b vs began (suc n) =
    let xs = recital bank ram rom vs began n in
    let ys = calls_for bank ram rom (events_at n vs) in
    let x = one_frame ram rom ((began + suc n) % 4294967296) in
    struck-append c k b xs (ys ++ (x ∷ [])) ∙ struck-append c k (struck_after c k b xs) ys (x ∷ [])
    ∙ ap (λ (t : Bool). struck_after c k t ys) (recital-struck bank ram rom c k b vs began n)
    ∙ sym (ap (struck_after c k b) (calls-append bank ram rom (frame_by_frame n vs) (events_at n vs)) ∙ struck-append c k b (calls_for bank ram rom (frame_by_frame n vs)) ys)

-- where every voice is released, none is held
not-held : (c k : ℕ) (e : Engine) → AllReleased e → NotHeld c k e
not-held c k e h i = by (held_key c k (slot_at e i)) refl
  where
    by : (b : Bool) → held_key c k (slot_at e i) ≡ b → b ≡ false
    by false q = refl
    by true q = let t = holds c k (slot_at e i) q in absurd (never (sym t.unreleased ∙ h i t.sounding))

-- ---- once it is over

-- no event is due any more: what is called are renders, which start no voice
over-starts : (song bank : List ℕ) (ram rom : List ℤ) (m : ℕ) (x : Tally) (e : Engine) → song_over x.player ≡ true → history (frame_calls song bank ram rom m x) e ≡ []
unfolding frame_calls history seats forward
over-starts song bank ram rom zero x e h = refl
over-starts song bank ram rom (suc m) x e h =
    let u = up_none song bank ram rom 0 (turns song) x (rw h refl) in
    rw u.1 (over-starts song bank ram rom m (forward ram rom 1 (prepared song bank ram rom x)) _ (ap (λ (y : Tally). song_over y.player) u.0 ∙ h))

module _ (song bank : List ℕ) (ram rom : List ℤ) (vs : List Event) (before ts us : List Turn) (n m : ℕ) (o : PlayedOut song bank ram rom vs before ts us n m) where
  -- the player before the start, its engine behind it, and the player when the song is over
  abbrev p : Player
  p = run_turns before idle

  abbrev e : Engine
  e = (next_turn (Start song) p).engine

  abbrev q : Player
  q = run_turns (Start song ∷ ts) p

  -- the calls that have led to each
  abbrev early : List Call
  early = calls_turns before idle ++ (hush_calls 16 ++ fresh_calls 16)

  abbrev late : List Call
  late = recital bank ram rom vs p.engine.clock n

  low : p.engine.clock < 4294967296
  unfolding fresh
  low = turns-clock before idle (lit< tt) o.clocks

  fine : (test_of song).number ≡ 0
  unfolding test_of
  fine = rw o.events refl

  recited : Recited song bank ram rom vs n ts p
  recited = song-is-played song bank ram rom vs n ts p low o.events o.played

  e-is : e ≡ run early fresh
  e-is =
      (start-calls song vs o.events p).state ∙ ap (run (hush_calls 16 ++ fresh_calls 16)) (idle-run before o.clocks).engine
      ∙ sym (run-append (calls_turns before idle) (hush_calls 16 ++ fresh_calls 16) fresh)

  q-is : q.engine ≡ run late e
  q-is =
      recited.engine ∙ run-append (hush_calls 16 ++ fresh_calls 16) late p.engine ∙ ap (run late) (sym (start-calls song vs o.events p).state)

  all-is : q.engine ≡ run (early ++ late) fresh
  all-is = q-is ∙ ap (run late) e-is ∙ sym (run-append early late fresh)

  -- all events are played
  played-all : frame_by_frame n vs ≡ vs
  played-all = each-once song vs n o.events ∙ recited.over o.over

  many : (xs : List Call) → length (run xs fresh).channels ≡ 16
  many xs = run-keeps (λ (y : Engine). length y.channels ≡ 16) many-channels xs fresh fresh-sized.channels

  -- every pedal is up
  pedal-up : (c : ℕ) → c ≤ 15 → pedal_down (run late e) c ≡ false
  pedal-up c h =
      let k : length e.channels ≡ 16 = subst (λ (y : Engine). length y.channels ≡ 16) (sym e-is) (many early) in
      let l : length p.engine.channels ≡ 16 = subst (λ (y : Engine). length y.channels ≡ 16) (sym (idle-run before o.clocks).engine) (many (calls_turns before idle)) in
      let z : (channel_at e c).pedal ≡ 0 = ap (λ (x : Channel). x.pedal) (channels-begin-fresh song p c fine l (omega arith)) in
      let bytes = song-each song vs o.events (λ (v : Event). v.second ≤ 127) (λ v r. omega (arith, r.second-in)) in
      ap (leb 64) (recital-pedal bank ram rom c vs p.engine.clock n e bytes k ∙ ap (λ (b : ℕ). pedal_after c b (frame_by_frame n vs)) z ∙ ap (pedal_after c 0) played-all)
      ∙ lt-leb 64 (pedal_after c 0 vs) (o.closed.pedals c)

  late-released : AllReleased (run late e)
  late-released i on =
      let v = voice_in i (run late e) in
      let w : run late e ≡ run (early ++ late) fresh = sym q-is ∙ all-is in
      let r =
      subst (λ (y : Engine). (slot_at y i).sounding ≡ true → ((voice_in i y).channel ≤ 15) × ((voice_in i y).key ≤ 127)) (sym w)
      (from-fresh (λ (u : Voice). (u.channel ≤ 15) × (u.key ≤ 127)) (λ u g p m h. h) (λ x y u f. let g = came x y u f in (g.small, g.key)) (early ++ late) i) on in
      let marks = subst MarksUnderPedal (sym e-is) (no-mark early) in
      key-released v.channel v.key false late e r.0 r.1 (λ z. not-held v.channel v.key e (start-releases song before o.clocks fine))
      (recital-struck bank ram rom v.channel v.key false vs p.engine.clock n
      ∙ ap (λ (ws : List Event). struck_after v.channel v.key false (calls_for bank ram rom ws)) played-all ∙ o.closed.keys v.channel v.key)
      marks (pedal-up v.channel r.0) i on refl refl

  released-all : AllReleased q.engine
  released-all = subst AllReleased (sym q-is) late-released

  -- and then m frames more
  silent : longest_release q.engine + 1 ≤ m → (run_turns us q).engine.sounding ≡ 0
  silent enough =
      let c = plays-clear song bank ram rom us m q o.rest (omega arith) in
      let k : q.engine.clock < 4294967296 = omega (arith, recited.clock) in
      let g = (frames-go ram rom song bank m (opened q) k c).leads in
      let cs = frame_calls song bank ram rom m (opened q) in
      let b = early ++ late in
      ap (λ (x : Player). x.engine.sounding) (plays-give song bank ram rom us m q o.rest).player
      ∙ ap (λ (x : Engine). x.sounding) (g.state ∙ ap (run cs) all-is)
      ∙ silent-in-time b cs (subst AllReleased all-is released-all) (over-starts song bank ram rom m (opened q) (run b fresh) o.over)
      (subst (λ (x : Engine). longest_release x + 1 ≤ frames_run cs x) all-is (subst (λ (f : ℕ). longest_release q.engine + 1 ≤ f) g.frames enough))

pub song-is-released : SongIsReleased
song-is-released song bank ram rom vs before ts us n m o = released-all song bank ram rom vs before ts us n m o

pub song-ends-in-silence : SongEndsInSilence
song-ends-in-silence song bank ram rom vs before ts us n m o enough = silent song bank ram rom vs before ts us n m o enough

pub song-ends-always : SongEndsAlways
song-ends-always song bank ram rom vs before ts us n m o enough =
    silent song bank ram rom vs before ts us n m o
    (le_trans (add-le-add (subst (λ (x : Engine). longest_release x ≤ 4480280) (sym (all-is song bank ram rom vs before ts us n m o)) (releases-end _)) (le_refl 1)) enough)
