-- Why bytes have no drawn run, where they are not loaded, or where memory is refused.
use Rattle.std.proofs.Common.{◌≡◌, ◌≢◌, ◌∙◌, ℕ, List, Bool, true, false, Option, Some, None, IfSome, ap, inl, refl, sym, subst}
use Rattle.std.proofs.KnownBytes.{Keeps-refl}
use Rattle.std.specs.Io.KnownBytes.{Keeps}
use Rattle.stab_json.specs.Values.{value_of}
use Rattle.stab_task.specs.Loading.{IsLoadFault, IsUnloaded, fault_of_load}
use Rattle.stab_task.specs.declared.fault.CliFault.{CliFault}
use Rattle.stab_task.specs.declared.fault.CliFault.TheVariants.{Memory, Write}
use Rattle.stab_task.specs.declared.file.LoadFault.{LoadFault}
use Rattle.stab_task.specs.declared.file.LoadFault.TheVariants as load
use Rattle.rignolda_commands.specs.Drawn.{IsDrawn, IsUndrawn, IsUndrawnBy, IsUndrawnJob, IsWritten, has_steps}
use Rattle.rignolda_commands.specs.declared.run.Drawing.{Drawing}
use Rattle.rignolda_commands.specs.declared.fault.CommandFault.{CommandFault}
use Rattle.rignolda_commands.specs.declared.fault.CommandFault.TheVariants.{Job}
use Rattle.rignolda_commands.proofs.Told.{by_load}

job_by_load : (input : List ℕ) (why : LoadFault) → IsLoadFault (Some input) why → IsUndrawnJob input (fault_of_load why)
job_by_load input load.Read because = tt
job_by_load input load.TooLong because = because
job_by_load input load.Memory because = tt

any_by_load : (has : Bool) (input : List ℕ) (why : LoadFault) → IsLoadFault (Some input) why → IsUndrawnBy has input (Job (fault_of_load why))
any_by_load true input why because = by_load input why because
any_by_load false input why because = (fault_of_load why, refl, job_by_load input why because)

-- bytes that are not loaded
pub unloaded : (had : Option (List ℕ)) (refusal : CliFault) → IsUnloaded had refusal → IfSome had (λ input. IsUndrawn input (Job refusal))
unloaded None refusal why = tt
unloaded (Some input) refusal (why, is, because) =
    subst (λ its_fault. IsUndrawn input (Job its_fault)) (sym is) (any_by_load (has_steps (value_of input)) input why because)

-- nor have bytes for which memory is refused, whether or not they have steps
pub memory_is_refused : (has : Bool) (input : List ℕ) → IsUndrawnBy has input (Job Memory)
memory_is_refused true input = inl tt
memory_is_refused false input = (Memory, refl, tt)

-- whatever the reader had
memory_of_any : (had : Option (List ℕ)) → IfSome had (λ input. IsUndrawn input (Job Memory))
memory_of_any None = tt
memory_of_any (Some input) = memory_is_refused (has_steps (value_of input)) input

-- where a run is not written to its end, and writing did not fail, memory was refused
is_memory : (refusal : CliFault) (fault : CommandFault) → fault ≡ Job refusal → (refusal ≢ Write → refusal ≡ Memory) → fault ≢ Job Write → fault ≡ Job Memory
is_memory refusal fault is only other = is ∙ ap Job (only (λ failed. other (is ∙ ap Job failed)))

-- which may be refused for any bytes
pub unwritten : (had : Option (List ℕ)) (refusal : CliFault) (fault : CommandFault) → fault ≡ Job refusal → (refusal ≢ Write → refusal ≡ Memory)
    → fault ≢ Job Write → IfSome had (λ input. IsUndrawn input fault)
unwritten had refusal fault is only other =
    subst (λ its_fault. IfSome had (λ input. IsUndrawn input its_fault)) (sym (is_memory refusal fault is only other)) (memory_of_any had)

-- so nothing was written for another fault
pub nothing_else : (old new : Option (List ℕ)) (refusal : CliFault) (fault : CommandFault) → fault ≡ Job refusal → (refusal ≢ Write → refusal ≡ Memory)
    → fault ≢ Job Write → fault ≢ Job Memory → Keeps old new
nothing_else old new refusal fault is only other no_memory = absurd (no_memory (is_memory refusal fault is only other))

-- a run that is drawn and written, of whatever the reader had
pub written : (had old new : Option (List ℕ)) (is_picture : Bool) (drawing : Drawing) → IfSome had (λ input. IsDrawn is_picture input drawing)
    → IsWritten drawing old new → IfSome had (λ input. (drawn : Drawing) × IsDrawn is_picture input drawn × IsWritten drawn old new)
written None old new is_picture drawing drawn is = tt
written (Some input) old new is_picture drawing drawn is = (drawing, drawn, is)

-- bytes that nothing is added to
pub kept_bytes : (a : Option (List ℕ)) → Keeps a a
kept_bytes a = Keeps-refl a
