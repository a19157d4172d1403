-- A printed report is read node by node, and what is read is the report: so where what is read prints another text, no report has
-- this one.
use Rattle.std.proofs.Common.{◌≡◌, ◌≢◌, ℕ, zero, suc, ◌+◌, ◌-◌, ◌<◌, IfErr, Result, Ok, Err, List, [], ◌∷◌, ◌++◌, length, map, get_or, Bool, true, false, Option, None, is_some, refl, sym, ap, ap₂, ◌∙◌, rules, arith}
use Rattle.std.proofs.lemmas.Bool.{false≢true}
use Rattle.std.proofs.lemmas.List.FromFn.{map-range_with_len_more}
use Rattle.std.specs.List.{flat_map, list_all, range_with_len}
use Rattle.stab_report.specs.Reports.{OnePerNode, ReportValue, acked_at, received_at}
use Rattle.stab_tree.specs.IsTree.{IsTree}
use Rattle.stab_tree.specs.Name.{is_name, is_name_byte}
use Rattle.stab_tree.specs.Nodes.{Nodes}
use Rattle.stab_tree.specs.Steps.{depth_of}
use Rattle.stab_report.specs.Lines.{IsCount, IsOneLine}
use Rattle.stab_report.specs.LinesInside.{IsPrint, as_read}
use Rattle.stab_report.specs.Texts.{IsNoReport, IsNoTree, IsPrintable, end_at, lines_at, node_lines, report_text, text_of, tree_text}
use Rattle.stab_report.proofs.Nodes.{at_places, both_true, one_line_name}

-- the lines of the next node, and those of the others
pub next_lines : (f : ℕ → List ℕ) (a n m : ℕ) → n ≡ suc m → flat_map f (range_with_len a n) ≡ f a ++ flat_map f (range_with_len (a + 1) m)
next_lines f a n m is = ap (λ k. flat_map f (range_with_len a k)) is

-- a node of a tree has a name of one line
pub one_line_at : (names : List (List ℕ)) (node : ℕ) → list_all is_name names ≡ true → IsOneLine (get_or names node [])
one_line_at [] node lawful = refl
one_line_at (name ∷ names) zero lawful =
    one_line_name name (both_true _ (list_all is_name_byte name) (both_true (is_name name) (list_all is_name names) lawful).0).1
one_line_at (name ∷ names) (suc node) lawful = one_line_at names node (both_true (is_name name) (list_all is_name names) lawful).1

-- what is printed is of this form
printed : (nodes : Nodes) (text : List ℕ) (r : ReportValue) (says_so : Bool) → OnePerNode nodes.parents r → IsPrintable r
    → text ≡ text_of nodes r says_so → IsPrint nodes text r says_so
unfolding text_of
printed nodes text r says_so entries printable is = record { entries = entries; printable = printable; the_text = is }

-- reports with the same three lists are the same
pub same_report : (r s : ReportValue) → r.received ≡ s.received → r.acked ≡ s.acked → r.ended_upstream ≡ s.ended_upstream → r ≡ s
same_report r s received acked ended = search (rules, received, acked, ended)

-- a report is read as it is
read_as_is : (nodes : Nodes) (r : ReportValue) → OnePerNode nodes.parents r → as_read nodes r true ≡ r
read_as_is nodes r entries =
    same_report (as_read nodes r true) r (at_places [] r.received (length nodes.parents) entries.received)
    (at_places None r.acked (length nodes.parents) entries.acked)
    (at_places false r.ended_upstream (length nodes.parents) entries.ended_upstream)

-- what is read of a text
abbrev pub Reads : Nodes → List ℕ → ReportValue → Type 0
Reads nodes text shown = (r : ReportValue) (says_so : Bool) → IsPrint nodes text r says_so → shown ≡ as_read nodes r says_so

-- so where it is printed otherwise, there is no report
pub no_report : (nodes : Nodes) (text written : List ℕ) (shown : ReportValue) → Reads nodes text shown → written ≡ report_text nodes shown
    → text ≢ written → IsNoReport nodes text
no_report nodes text written shown reads writes differs r entries printable is =
    differs
    (is
    ∙ sym
    (ap (report_text nodes) (reads r true (printed nodes text r true entries printable is) ∙ read_as_is nodes r entries))
    ∙ sym writes)

same_tree_text : (nodes : Nodes) (r s : ReportValue) → r.received ≡ s.received → r.acked ≡ s.acked → tree_text nodes r ≡ tree_text nodes s
unfolding text_of
same_tree_text nodes r s received acked =
    ap₂
    (λ lists counts.
    flat_map
    (λ node.
    node_lines (get_or nodes.names node []) (depth_of nodes.parents node) (get_or lists node []) (get_or counts node None) None)
    (range_with_len 0 (length nodes.parents)))
    received acked

pub no_tree : (nodes : Nodes) (text written : List ℕ) (shown unended : ReportValue) → Reads nodes text shown
    → unended.received ≡ shown.received → unended.acked ≡ shown.acked → written ≡ tree_text nodes unended → text ≢ written → IsNoTree nodes text
no_tree nodes text written shown unended reads received acked writes differs r entries printable is =
    let is_read = reads r false (printed nodes text r false entries printable is) in
    differs
    (is
    ∙ sym
    (same_tree_text nodes unended r
    (received ∙ ap (λ s. s.received) is_read ∙ at_places [] r.received (length nodes.parents) entries.received)
    (acked ∙ ap (λ s. s.acked) is_read ∙ at_places None r.acked (length nodes.parents) entries.acked))
    ∙ sym writes)

-- what the first line of a text says
abbrev pub Tells : List ℕ → Option Bool → Type 0
Tells text told =
    (name : List ℕ) (depth : ℕ) (received : List ℕ) (acked : Option ℕ) (end : Option Bool) (rest : List ℕ) → IsOneLine name → IsCount acked
    → text ≡ node_lines name depth received acked end ++ rest → told ≡ end

first_told : (nodes : Nodes) (text : List ℕ) (r : ReportValue) (says_so : Bool) (told : Option Bool) → IsTree nodes
    → IsPrint nodes text r says_so → Tells text told → told ≡ end_at r says_so 0
first_told nodes text r says_so told tree print tells =
    let n = length nodes.parents in
    let some : 0 < length r.acked = omega (arith, tree.rooted.some_node, print.entries.acked) in
    tells (get_or nodes.names 0 []) (depth_of nodes.parents 0) (received_at r 0) (acked_at r 0) (end_at r says_so 0)
    (flat_map (lines_at nodes r says_so) (range_with_len 1 (n - 1))) (one_line_at nodes.names 0 tree.lawful_names)
    (print.printable.counts 0 None some)
    (print.the_text ∙ next_lines (lines_at nodes r says_so) 0 n (n - 1) (omega (arith, tree.rooted.some_node)))

-- a text whose first line says why a node ended is of no tree, and another one of no report
pub ended_is_no_tree : (nodes : Nodes) (text : List ℕ) (told : Option Bool) → IsTree nodes → Tells text told → is_some told ≡ true
    → IsNoTree nodes text
ended_is_no_tree nodes text told tree tells some r entries printable is =
    let none = first_told nodes text r false told tree (printed nodes text r false entries printable is) tells in
    false≢true (sym (ap is_some none) ∙ some)

pub unended_is_no_report : (nodes : Nodes) (text : List ℕ) (told : Option Bool) → IsTree nodes → Tells text told → is_some told ≡ false
    → IsNoReport nodes text
unended_is_no_report nodes text told tree tells none r entries printable is =
    let some =
    first_told nodes text r true told tree (printed nodes text r true entries printable is) tells in
    false≢true (sym none ∙ ap is_some some)

-- what remains of a text begins with the lines of the next node
pub lines_here : (nodes : Nodes) (text : List ℕ) (r : ReportValue) (says_so : Bool) (i : ℕ) (rest : List ℕ) → i < length nodes.parents
    → rest ≡ flat_map (lines_at nodes r says_so) (range_with_len i (length nodes.parents - i))
    → rest ≡ lines_at nodes r says_so i ++ flat_map (lines_at nodes r says_so) (range_with_len (i + 1) (length nodes.parents - (i + 1)))
lines_here nodes text r says_so i rest within is =
    is ∙ next_lines (lines_at nodes r says_so) i (length nodes.parents - i) (length nodes.parents - (i + 1)) (omega (arith, within))

-- the entries so far, and that of the next node
pub one_more : {A : Type 0} (f : ℕ → A) (i : ℕ) (before after : List A) (entry : A) → after ≡ before ++ entry ∷ []
    → before ≡ map f (range_with_len 0 i) → entry ≡ f i → after ≡ map f (range_with_len 0 (i + 1))
one_more f i before after entry pushed so_far is =
    pushed ∙ ap₂ (λ xs x. xs ++ x ∷ []) so_far is ∙ sym (map-range_with_len_more f 0 i i (omega arith))

-- what is so anyway is so of each fault but one; and what follows from what is so of each of them
pub of_each : {T E : Type 0} (result : Result T E) (IsOther : E → Type 0) (P : Type 0) → P → IfErr result (λ fault. IsOther fault → P)
of_each (Ok value) IsOther P holds = tt
of_each (Err fault) IsOther P holds = λ other. holds

pub of_each_too : {T E : Type 0} (result : Result T E) (IsOther : E → Type 0) (P Q : Type 0) → (P → Q)
    → IfErr result (λ fault. IsOther fault → P) → IfErr result (λ fault. IsOther fault → Q)
of_each_too (Ok value) IsOther P Q follows refused = tt
of_each_too (Err fault) IsOther P Q follows refused = λ other. follows (refused other)
