-- Lists that are made link by link.
use Rattle.std.proofs.Common.{◌≡◌, ℕ, ◌+◌, List, [], ◌∷◌, ◌++◌, replicate, Result, Ok, Err, refl, sym, ap, ◌∙◌, append_assoc}
use Rattle.std.proofs.lemmas.List.{replicate-append-replicate, append-nil}
use Rattle.stab_json.specs.Checks.{◌>>=◌}
use Rattle.stab_acts.specs.declared.fault.ScriptFault.{ScriptFault}
use Rattle.stab_script.specs.declared.script_entry.ScriptEntry.{ScriptEntry}
use Rattle.stab_script.specs.MadeScripts.{made}
use Rattle.stab_acts.specs.Scripts.{Acts}
use Rattle.stab_job.specs.JobLinks.{all_made}

-- one more at the end of as many alike is one more of them
pub one_more_alike : {A : Type 0} (n : ℕ) (x : A) → replicate n x ++ x ∷ [] ≡ replicate (n + 1) x
one_more_alike n x = replicate-append-replicate n 1 x

-- what was made so far, and then the others, if they are made
abbrev pub made_after : {A F : Type 0} → List A → Result (List A) F → Result (List A) F
made_after made (Ok others) = Ok (made ++ others)
made_after made (Err fault) = Err fault

-- before the first there was none
pub made_at_first : {A F : Type 0} (o : Result (List A) F) → o ≡ made_after [] o
made_at_first (Ok made) = refl
made_at_first (Err fault) = refl

pub one_more : {A F : Type 0} (made : List A) (one : A) (others : Result (List A) F)
    → made_after made (others >>= (λ more. Ok (one ∷ more))) ≡ made_after (made ++ one ∷ []) others
one_more made one (Ok more) = ap Ok (sym (append_assoc made (one ∷ []) more))
one_more made one (Err fault) = refl

module _ (whole : Result (List Acts) ScriptFault) (scripts : List Acts) (entry : ScriptEntry) (others : List ScriptEntry) (so_far : whole ≡ made_after scripts (all_made (entry ∷ others))) where
  -- one script more was made
  pub made_more : (script : Acts) → made entry ≡ Ok script → whole ≡ made_after (scripts ++ script ∷ []) (all_made others)
  made_more script is = rw is at so_far ∙ one_more scripts script (all_made others)

  -- the first fault is the answer
  pub made_fault : (fault : ScriptFault) → made entry ≡ Err fault → whole ≡ Err fault
  made_fault fault is = rw is at so_far

-- at the end all are made
pub made_at_end : (scripts : List Acts) → made_after scripts (all_made []) ≡ Ok scripts
made_at_end scripts = ap Ok (append-nil scripts)
