-- What is read as a job of a tree names a tree, and what has only the members of a link job names
-- none; so both are known for what they are.
use Rattle.std.proofs.Common.{◌≡◌, ℕ, List, true, Option, Some, None, Ok, Err, codes, get_or, IfSome, is_some, if◌then◌else◌, option_and_then, refl, sym, ap, ◌∙◌, subst, arith}
use Rattle.serde_json.specs.Data.{Data}
use Rattle.serde_json.specs.Find.{get}
use Rattle.stab_job.specs.JobMembers.{Members, members}
use Rattle.stab_job.specs.JobOpenings.{version_of}
use Rattle.stab_job.specs.Jobs.{job, job_of_data, job_of_members}
use Rattle.stab_job.specs.JobValues.{JobValue}
use Rattle.stab_job.specs.declared.fault.JobFault.TheVariants as job_fault
use Rattle.stab_json.specs.Checks.{◌>>=◌, ◌or◌}
use Rattle.stab_json.specs.Values.{value_of, most_u16, capped}
use Rattle.stab_script.specs.Members.{HasNoOthers, IsOther}
use Rattle.rignolda_explain.specs.Kinds.{chosen}
use Rattle.rignolda_findings.specs.declared.refusal.Kind.TheVariants as kind

-- nothing comes of nothing, and nothing of what ends in nothing
none_here : {A B : Type 0} (o : Option A) (f : A → Option B) → o ≡ None → option_and_then f o ≡ None
none_here o f none = rw none refl

none_after : {A B : Type 0} (o : Option A) (f : A → Option B) → ((x : A) → f x ≡ None) → option_and_then f o ≡ None
none_after None f none = refl
none_after (Some x) f none = none x

-- without members there is no job, whatever its version is
no_job_of : {V : Type 0} (o : Option V) (found : V → Option Members) (its_job : JobValue) → ((v : V) → found v ≡ None)
    → ((o or job_fault.Version) >>= (λ v. (found v or job_fault.Shape) >>= job_of_members)) ≡ Ok its_job → ⊥
no_job_of None found its_job none read = (let never : Err job_fault.Version ≡ Ok its_job = read in cc)
no_job_of (Some v) found its_job none read =
    let never : Err job_fault.Shape ≡ Ok its_job =
    ap (λ (ms : Option Members). (ms or job_fault.Shape) >>= job_of_members) (sym (none v)) ∙ read in cc

-- and without a tree there are no members, so a value that is a job has a tree
value_has_tree : (d : Data) (its_job : JobValue) (o : Option Data) → get (codes "tree") d ≡ o → job_of_data d ≡ Ok its_job → is_some (get (codes "tree") d) ≡ true
value_has_tree d its_job None is read =
    absurd (no_job_of (version_of (get (codes "version") d)) (λ version. members version d) its_job
    (λ version. none_after (option_and_then (capped most_u16) (get (codes "capacity") d)) _ (λ capacity.
    none_after (option_and_then (capped most_u16) (get (codes "labels") d)) _ (λ labels. none_here (get (codes "tree") d) _ is))) read)
value_has_tree d its_job (Some tree) is read = ap is_some is

-- and bytes that are a job have one
pub has_tree : (input : List ℕ) (its_job : JobValue) (d : Data) → value_of input ≡ Some d → job input ≡ Ok its_job → is_some (get (codes "tree") d) ≡ true
has_tree input its_job d is read =
    value_has_tree d its_job (get (codes "tree") d) refl (subst (λ o. ((o or job_fault.Json) >>= job_of_data) ≡ Ok its_job) is read)

read_as_a_tree : (input : List ℕ) (its_job : JobValue) (o : Option Data) → value_of input ≡ o → job input ≡ Ok its_job → chosen None (value_of input) ≡ kind.Job
read_as_a_tree input its_job None is read =
    absurd (let never : Err job_fault.Json ≡ Ok its_job = subst (λ o. ((o or job_fault.Json) >>= job_of_data) ≡ Ok its_job) is read in cc)
read_as_a_tree input its_job (Some d) is read =
    ap (λ o. chosen None o) is ∙ ap (λ b. if b then kind.Job else kind.LinkJob) (has_tree input its_job d is read)

-- so they are read as one
pub job_is_a_tree : (input : List ℕ) (its_job : JobValue) → job input ≡ Ok its_job → chosen None (value_of input) ≡ kind.Job
job_is_a_tree input its_job read = read_as_a_tree input its_job (value_of input) refl read

-- a value without other members than those of a link job has no tree
pub tree_is_other : IsOther (codes "tree")
tree_is_other = (
  λ e. let at : get_or (codes "tree") 0 0 ≡ get_or (codes "capacity") 0 0 = ap (λ s. get_or s 0 0) e in absurd (omega (arith, at)),
  λ e. let at : get_or (codes "tree") 0 0 ≡ get_or (codes "labels") 0 0 = ap (λ s. get_or s 0 0) e in absurd (omega (arith, at)),
  λ e. let at : get_or (codes "tree") 0 0 ≡ get_or (codes "start") 0 0 = ap (λ s. get_or s 0 0) e in absurd (omega (arith, at)),
  λ e. let at : get_or (codes "tree") 0 0 ≡ get_or (codes "events") 0 0 = ap (λ s. get_or s 0 0) e in absurd (omega (arith, at)),
)

pub read_as_a_link : (o : Option Data) → IfSome o HasNoOthers → chosen None o ≡ kind.LinkJob
read_as_a_link None none = refl
read_as_a_link (Some d) none = ap (λ m. if is_some m then kind.Job else kind.LinkJob) (none (codes "tree") tree_is_other)

-- the same of bytes
pub plain_link_is_one : (input : List ℕ) → IfSome (value_of input) HasNoOthers → chosen None (value_of input) ≡ kind.LinkJob
plain_link_is_one input none = read_as_a_link (value_of input) none
