-- Fields with a limit or a length, and that no refusal is *more*.
use Rattle.std.proofs.Common.{◌≡◌, ◌≢◌, ℕ, ◌+◌, ◌<◌, ◌≤◌, Bool, true, false, List, [], ◌∷◌, ◌++◌, length, refl, arith}
use Rattle.std.specs.Prelude.{◌==◌, ◌&&◌, nat_le}
use Rattle.std.specs.List.{list_all}
use Rattle.std.specs.Int.{Width, byte_len, to_be_bytes}
use Rattle.std.proofs.lemmas.Bool.{eqb-true, le-leb, leb-true}
use Rattle.rignolda_wire.specs.declared.fault.Fault.{Fault}
use Rattle.rignolda_wire.specs.declared.fault.Fault.TheVariants.{More, NoHello, NoVersion, NoName, NoMessage, LongBody, LongWay, NoNameOfWay, LongReport, LongSignature}
use Rattle.rignolda_wire.specs.Names.{begins_well, is_name, is_name_byte, is_name_or_none, name_limit}
use Rattle.rignolda_wire.specs.Reading.{◌>>=◌, Reader, counted_at, letter_at, limited_at, name_at, name_len_at, text_at, version_at, wanted}
use Rattle.rignolda_wire.specs.Said.{name_bytes}
use Rattle.rignolda_wire.proofs.Codecs.{Any, IsCodec, codec_after, codec_like, codec_wanted}
use Rattle.rignolda_wire.proofs.Parts.{IsWide, codec_byte, codec_number, codec_text}

pub no_hello : NoHello ≢ More
no_hello e = cc

pub no_version : NoVersion ≢ More
no_version e = cc

pub no_name : NoName ≢ More
no_name e = cc

pub no_message : NoMessage ≢ More
no_message e = cc

pub long_body : LongBody ≢ More
long_body e = cc

pub long_way : LongWay ≢ More
long_way e = cc

pub no_name_of_way : NoNameOfWay ≢ More
no_name_of_way e = cc

pub long_report : LongReport ≢ More
long_report e = cc

pub long_signature : LongSignature ≢ More
long_signature e = cc

-- ---- limits

pub codec_limited : (w : Width) (top limit : ℕ) (fault : Fault) → fault ≢ More → IsWide w top → limit < top
    → IsCodec ℕ Any (λ n. n ≤ limit) (to_be_bytes w) (byte_len w) (limited_at w limit fault)
unfolding limited_at
codec_limited w top limit fault other wide below =
    codec_like (codec_wanted (λ n. nat_le n limit) fault other (codec_number w top wide)) (omega arith)
    (λ n known good. (tt, leb-true n limit good.1, refl))
    (λ n known few. (tt, (omega (arith, few, below), le-leb n limit few)))

-- a text behind its length
pub codec_counted : (w : Width) (top limit : ℕ) (fault : Fault) → fault ≢ More → IsWide w top → limit < top
    → IsCodec (List ℕ) Any (λ t. length t ≤ limit) (λ t. to_be_bytes w (length t) ++ t) (byte_len w + limit) (counted_at w limit fault)
unfolding counted_at
codec_counted w top limit fault other wide below =
    codec_like (codec_after length text_at (codec_limited w top limit fault other wide below)
    (λ n few. codec_text (λ t. (length t ≡ n) × Any t) Any n limit few (λ t known good. known.0) (λ t is. ((is, tt), tt))))
    (omega arith)
    (λ t known good. (tt, good.0, refl))
    (λ t known few. (tt, (few, tt)))

-- ---- letters, versions

pub codec_letter : (letter : ℕ) → IsCodec ℕ Any (λ n. (n < 256) × ((n == letter) ≡ true)) (λ n. n ∷ []) 1 (letter_at letter)
unfolding letter_at
codec_letter letter = codec_wanted (λ byte. byte == letter) NoHello no_hello codec_byte

-- what follows this letter
pub codec_behind : {B : Type 0} {K G : B → Type 0} {spell : B → List ℕ} {k : ℕ} (letter : ℕ) (next : Reader B)
    → letter < 256 → (letter == letter) ≡ true → IsCodec B K G spell k next
    → IsCodec B K G (λ b. letter ∷ spell b) (1 + k) (letter_at letter >>= λ _. next)
codec_behind {K = K} {k = k} letter next low itself c =
    codec_like (codec_after {K = K} (λ b. letter) (λ _. next) (codec_letter letter)
    (λ n is. codec_like {K' = λ b. (letter ≡ n) × K b} {l = k} c (omega arith) (λ b known good. ((let e : n ≡ letter = eqb-true n letter is.1 in cc, known), good, refl)) (λ b known good. (known.1, good))))
    (omega arith)
    (λ b known good. (known, good.1, refl))
    (λ b known good. (known, ((low, itself), good)))

pub codec_version : (least : ℕ) → IsCodec ℕ Any (λ n. (n < 256) × (nat_le least n ≡ true)) (λ n. n ∷ []) 1 (version_at least)
unfolding version_at
codec_version least = codec_wanted (nat_le least) NoVersion no_version codec_byte

-- ---- names

both : (a b c : Bool) → (a && b && c) ≡ true → b ≡ true
both true true c is = refl
both true false c is = absurd cc
both false b c is = absurd cc

-- a name is short
pub name_short : (name : List ℕ) → is_name name ≡ true → length name ≤ name_limit
name_short name is = leb-true (length name) name_limit (both (begins_well name) (nat_le (length name) name_limit) (list_all is_name_byte name) is)

pub short_or_none : (name : List ℕ) → is_name_or_none name ≡ true → length name ≤ name_limit
short_or_none [] is = omega arith
short_or_none (byte ∷ bytes) is = name_short (byte ∷ bytes) is

codec_name_len : IsCodec ℕ Any (λ n. (n < 256) × (nat_le n name_limit ≡ true)) (λ n. n ∷ []) 1 name_len_at
unfolding name_len_at
codec_name_len = codec_wanted (λ len. nat_le len name_limit) NoName no_name codec_byte

pub codec_name : (is : List ℕ → Bool) → ((name : List ℕ) → is name ≡ true → length name ≤ name_limit)
    → IsCodec (List ℕ) Any (λ name. is name ≡ true) name_bytes 65 (name_at is)
unfolding name_at
codec_name is short =
    codec_like (codec_after length (λ len. text_at len >>= wanted is NoName) codec_name_len
    (λ n few. codec_wanted is NoName no_name
    (codec_text (λ t. (length t ≡ n) × Any t) Any n name_limit (leb-true n name_limit few.1) (λ t known good. known.0) (λ t is_so. ((is_so, tt), tt)))))
    (omega arith)
    (λ t known good. (tt, good.1.1, refl))
    (λ t known good. (tt, ((omega (arith, short t good), le-leb (length t) name_limit (short t good)), (tt, good))))
