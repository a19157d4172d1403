-- What the lock of a link keeps is reached by calls, also after one more.
use Rattle.std.proofs.Common.{◌≡◌, List, [], ◌∷◌, ◌++◌, Result, Ok, Err, OnErr, OnOk, refl, ap, sym, ◌∙◌, subst}
use Rattle.stab_frames.specs.Parameters.{Parameters}
use Rattle.stab_core.specs.declared.start.Start.{Start}
use Rattle.stab_acts.specs.Scripts.{Acts, ActsRemaining, receiver_half, sender_half}
use Rattle.stab_lock.specs.Book.{Book, book_of}
use Rattle.stab_lock.specs.Calls.{Call, offering, sending, polling_ack, closing, polling_frame, sending_ack}
use Rattle.stab_lock.specs.Scripted.{IsBookOf, IsNotedUnder, IsReached, Shared, after_call, after_calls, before_calls}
use Rattle.stab_lock.specs.Taken.{SameScriptTaken}
use Rattle.stab_lock.proofs.SameCalls.{SameUpTo, same_after_calls}

-- a call after some calls
one_more_call : (calls : List Call) (call : Call) (s : Shared)
    → after_calls (calls ++ call ∷ []) s ≡ after_call call (after_calls calls s)
unfolding after_calls
one_more_call [] call s = refl
one_more_call (first ∷ calls) call s = one_more_call calls call (after_call first s)

-- what a call leaves belongs to the same link
pub same_begin : (call : Call) (s : Shared)
    → before_calls (after_call call s).book.params (after_call call s).book.start (after_call call s).script
    ≡ before_calls s.book.params s.book.start s.script
same_begin (offering item) s = refl
same_begin sending s = refl
same_begin polling_ack s = refl
same_begin closing s = refl
same_begin polling_frame s = refl
same_begin sending_ack s = refl

-- no call leads to what is there before any
pub reached_at_first : (p : Parameters) (start : Start) (script : Acts) → IsReached (before_calls p start script)
unfolding after_calls
reached_at_first p start script = record { calls = []; reached = refl }

-- one more call leads to what it leaves
pub reached_after : (call : Call) (old new : Shared) → new ≡ after_call call old → IsReached old → IsReached new
reached_after call old new is before =
    subst IsReached (sym is)
    (record {
      calls = before.calls ++ call ∷ [];
      reached =
          ap (after_call call) before.reached
          ∙ (sym (one_more_call before.calls call (before_calls old.book.params old.book.start old.script))
          ∙ ap (after_calls (before.calls ++ call ∷ [])) (sym (same_begin call old)));
    })

-- so its history is by each script that is the same as far as acts were taken
pub by_script : (s : Shared) (script : Acts) → SameScriptTaken s.sender s.receiver s.script script → IsReached s
    → IsNotedUnder s.book.params s.book.start script s.book.history
by_script s script same reached =
    let begun : Shared = before_calls s.book.params s.book.start s.script in
    let other : Shared = before_calls s.book.params s.book.start script in
    let alike : SameUpTo s begun other = record { book = refl; sender = same.by_sender; receiver = same.by_receiver } in
    let books = same_after_calls reached.calls begun other (subst (λ end. SameUpTo end begun other) reached.reached alike) in
    record {
      calls = reached.calls;
      noted = ap (λ (x : Shared). x.book.history) reached.reached ∙ ap (λ (b : Book). b.history) books;
    }

-- and a book before any call is by any script
pub by_no_call : (b : Book) (script : Acts) → b.history ≡ [] → IsBookOf b.params b.start script b
unfolding after_calls
by_no_call b script none = record { its_params = refl; its_start = refl; noted = record { calls = []; noted = none } }

-- a call that takes no act leads on, or changes nothing
pub reached_by_book : {T E : Type 0} (r : Result T E) (call : Call) (s : Shared) (book after : Book) → after_call call s ≡ record s { book = after }
    → OnOk r (book ≡ after) → OnErr r (book ≡ s.book) → IsReached s → IsReached (record s { book = book })
reached_by_book (Ok x) call s book after is noted same before =
    reached_after call s (record s { book = book }) (ap (λ b. record s { book = b }) noted ∙ sym is) before
reached_by_book (Err e) call s book after is noted same before = subst (λ b. IsReached (record s { book = b })) (sym same) before

-- so does a call of the sender's end, and one of the receiver's
pub reached_by_sender : {T E : Type 0} (r : Result T E) (call : Call) (s : Shared) (book after : Book) (acts left : ActsRemaining)
    → after_call call s ≡ record s { book = after; sender = left }
    → OnOk r (book ≡ after) → OnOk r (acts ≡ left) → OnErr r (book ≡ s.book) → OnErr r (acts ≡ s.sender) → IsReached s
    → IsReached (record s { book = book; sender = acts })
reached_by_sender (Ok x) call s book after acts left is noted taken same untaken before =
    reached_after call s (record s { book = book; sender = acts })
    (ap (λ b. record s { book = b; sender = acts }) noted ∙ (ap (λ a. record s { book = after; sender = a }) taken ∙ sym is)) before
reached_by_sender (Err e) call s book after acts left is noted taken same untaken before =
    subst (λ b. IsReached (record s { book = b; sender = acts })) (sym same)
    (subst (λ a. IsReached (record s { book = s.book; sender = a })) (sym untaken) before)

pub reached_by_receiver : {T E : Type 0} (r : Result T E) (call : Call) (s : Shared) (book after : Book) (acts left : ActsRemaining)
    → after_call call s ≡ record s { book = after; receiver = left }
    → OnOk r (book ≡ after) → OnOk r (acts ≡ left) → OnErr r (book ≡ s.book) → OnErr r (acts ≡ s.receiver) → IsReached s
    → IsReached (record s { book = book; receiver = acts })
reached_by_receiver (Ok x) call s book after acts left is noted taken same untaken before =
    reached_after call s (record s { book = book; receiver = acts })
    (ap (λ b. record s { book = b; receiver = acts }) noted ∙ (ap (λ a. record s { book = after; receiver = a }) taken ∙ sym is)) before
reached_by_receiver (Err e) call s book after acts left is noted taken same untaken before =
    subst (λ b. IsReached (record s { book = b; receiver = acts })) (sym same)
    (subst (λ a. IsReached (record s { book = s.book; receiver = a })) (sym untaken) before)

-- what is made of a book at its start and of both halves of its script is reached by no call
pub reached_when_made : (p : Parameters) (start : Start) (given : Acts) (book : Book) (script : Acts) (sender receiver : ActsRemaining) → book ≡ book_of p start []
    → script ≡ given → sender ≡ sender_half given → receiver ≡ receiver_half given
    → IsReached (record { book = book; script = script; sender = sender; receiver = receiver })
reached_when_made p start given book script sender receiver its_book its_script its_sender its_receiver =
    rw (its_book, its_script, its_sender, its_receiver) (reached_at_first p start given)
