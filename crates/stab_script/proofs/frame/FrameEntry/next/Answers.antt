use Rattle.std.proofs.Common.{◌≡◌, ◌∷◌, refl, sym, ap, ◌∙◌, subst}
use Rattle.json.specs.Token.{Token}
use Rattle.json.specs.Reads.{token_of}
use Rattle.stab_json.specs.Values.{most_u16, most_u32}
use Rattle.stab_script.specs.Plain.{IsWhole}
use Rattle.stab_script.proofs.Meaning.{a_frame}
use Rattle.stab_script.proofs.Plain.{no_some, one_rest, ends_at, goes_on}
use Rattle.stab_script.proofs.frame.FrameEntry.next.Goals as goal

pub returns-then-take_end_array-clause-value : goal.returns-then-take_end_array-clause-value
returns-then-take_end_array-clause-value c =
    let ts = c.next.new.self in
    let is : c.args.reader.now ≡ Token.begin_array ∷ ts = c.in_ok-next.ensures.value ∙ ap (λ k. token_of k ∷ ts) c.in-BeginArray.is in
    let label = c.in_ok-label in
    let item = c.in_ok-item in
    λ depth some. rw is (a_frame label.label item.item ts c.next_u16.new.reader c.next_u32.new.reader c.take_end_array.new.self label.ensures.value label.ensures.small item.ensures.value item.ensures.small
    c.if-take_end_array.ensures label.ensures.shorter item.ensures.shorter depth some)

pub returns-in_err-label-clause-plain : goal.returns-in_err-label-clause-plain
returns-in_err-label-clause-plain c =
    let ts = c.next.new.self in
    let is : c.args.reader.now ≡ Token.begin_array ∷ ts = c.in_ok-next.ensures.value ∙ ap (λ k. token_of k ∷ ts) c.in-BeginArray.is in
    λ rest p.
    let same : p.0 ≡ ts = one_rest Token.begin_array p.1 is in
    let label = c.next_u16.ensures.plain p.2 (subst (λ us. IsWhole most_u16 us p.2) same p.3) in
    absurd (no_some c.in_err-label.was label.0)

pub returns-in_err-item-clause-plain : goal.returns-in_err-item-clause-plain
returns-in_err-item-clause-plain c =
    let ts = c.next.new.self in
    let is : c.args.reader.now ≡ Token.begin_array ∷ ts = c.in_ok-next.ensures.value ∙ ap (λ k. token_of k ∷ ts) c.in-BeginArray.is in
    λ rest p.
    let same : p.0 ≡ ts = one_rest Token.begin_array p.1 is in
    let label = c.next_u16.ensures.plain p.2 (subst (λ us. IsWhole most_u16 us p.2) same p.3) in
    let item = c.next_u32.ensures.plain p.4 (subst (λ vs. IsWhole most_u32 vs p.4) (sym label.1) p.5) in
    absurd (no_some c.in_err-item.was item.0)

pub returns-then-take_end_array-clause-plain : goal.returns-then-take_end_array-clause-plain
returns-then-take_end_array-clause-plain c =
    let ts = c.next.new.self in
    let is : c.args.reader.now ≡ Token.begin_array ∷ ts = c.in_ok-next.ensures.value ∙ ap (λ k. token_of k ∷ ts) c.in-BeginArray.is in
    λ rest p.
    let same : p.0 ≡ ts = one_rest Token.begin_array p.1 is in
    let label = c.next_u16.ensures.plain p.2 (subst (λ us. IsWhole most_u16 us p.2) same p.3) in
    let item = c.next_u32.ensures.plain p.4 (subst (λ vs. IsWhole most_u32 vs p.4) (sym label.1) p.5) in
    (refl, ends_at item.1 c.if-take_end_array.ensures p.6)

pub returns-else-take_end_array-clause-plain : goal.returns-else-take_end_array-clause-plain
returns-else-take_end_array-clause-plain c =
    let ts = c.next.new.self in
    let is : c.args.reader.now ≡ Token.begin_array ∷ ts = c.in_ok-next.ensures.value ∙ ap (λ k. token_of k ∷ ts) c.in-BeginArray.is in
    λ rest p.
    let same : p.0 ≡ ts = one_rest Token.begin_array p.1 is in
    let label = c.next_u16.ensures.plain p.2 (subst (λ us. IsWhole most_u16 us p.2) same p.3) in
    let item = c.next_u32.ensures.plain p.4 (subst (λ vs. IsWhole most_u32 vs p.4) (sym label.1) p.5) in
    absurd (goes_on item.1 c.if-take_end_array.ensures.0 p.6)
