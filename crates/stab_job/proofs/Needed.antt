-- Each member is needed: where one has another shape, there are no members, whatever the others are.
use Rattle.std.proofs.Common.{◌≡◌, ℕ, List, Option, Some, None, codes, refl}
use Rattle.serde_json.specs.Data.{Data, Items}
use Rattle.serde_json.specs.Find.{get}
use Rattle.stab_json.specs.Values.{◌>>=◌, most_u16, capped, item_number, list_of}
use Rattle.stab_script.specs.ScriptEntries.{script_entry}
use Rattle.stab_script.specs.Starts.{start}
use Rattle.stab_job.specs.declared.version.Version.{Version}
use Rattle.stab_job.specs.JobMembers.{Members, if_there, turns_of, entries_of, members}
use Rattle.stab_job.specs.JobOpenings.{hold_of, lists_given}
use Rattle.stab_job.specs.LinkEntries.{link_entry}

-- nothing comes of nothing
none_here : {A B : Type 0} (o : Option A) (f : A → Option B) → o ≡ None → (o >>= f) ≡ None
none_here o f none = rw none refl

-- what ends in nothing is nothing, whatever comes before
none_after : {A B : Type 0} (o : Option A) (f : A → Option B) → ((x : A) → f x ≡ None) → (o >>= f) ≡ None
none_after None f none = refl
none_after (Some x) f none = none x

-- the same after the members that stand before those of the links
after_items : (d : Data) (f : ℕ → ℕ → Data → ℕ → Items → List ℕ → Option Members)
    → ((capacity labels : ℕ) (tree : Data) (turns : ℕ) (schedule : Items) (items : List ℕ) → f capacity labels tree turns schedule items ≡ None)
    → ((get (codes "capacity") d >>= capped most_u16) >>= (λ capacity. (get (codes "labels") d >>= capped most_u16) >>= (λ labels.
    get (codes "tree") d >>= (λ tree. turns_of (get (codes "turns") d) >>= (λ turns. entries_of (get (codes "schedule") d) >>= (λ schedule.
    (get (codes "items") d >>= list_of item_number) >>= (λ items. f capacity labels tree turns schedule items))))))) ≡ None
after_items d f none =
    none_after (get (codes "capacity") d >>= capped most_u16) _ (λ capacity. none_after (get (codes "labels") d >>= capped most_u16) _ (λ labels.
    none_after (get (codes "tree") d) _ (λ tree. none_after (turns_of (get (codes "turns") d)) _ (λ turns. none_after (entries_of (get (codes "schedule") d)) _ (λ schedule.
    none_after (get (codes "items") d >>= list_of item_number) _ (λ items. none capacity labels tree turns schedule items))))))

pub starts_needed : (v : Version) (d : Data) → if_there (list_of start) (get (codes "starts") d) ≡ None → members v d ≡ None
starts_needed v d none = after_items d _ (λ _ _ _ _ _ _. none_here (if_there (list_of start) (get (codes "starts") d)) _ none)

pub scripts_needed : (v : Version) (d : Data) → if_there (list_of script_entry) (get (codes "scripts") d) ≡ None → members v d ≡ None
scripts_needed v d none = after_items d _ (λ _ _ _ _ _ _. none_after (if_there (list_of start) (get (codes "starts") d)) _ (λ _.
    none_here (if_there (list_of script_entry) (get (codes "scripts") d)) _ none))

pub links_needed : (v : Version) (d : Data) → if_there (list_of link_entry) (get (codes "links") d) ≡ None → members v d ≡ None
links_needed v d none = after_items d _ (λ _ _ _ _ _ _. none_after (if_there (list_of start) (get (codes "starts") d)) _ (λ _.
    none_after (if_there (list_of script_entry) (get (codes "scripts") d)) _ (λ _.
    none_here (if_there (list_of link_entry) (get (codes "links") d)) _ none)))

pub hold_needed : (v : Version) (d : Data) → hold_of v d ≡ None → members v d ≡ None
hold_needed v d none = after_items d _ (λ _ _ _ _ _ _. none_after (if_there (list_of start) (get (codes "starts") d)) _ (λ _.
    none_after (if_there (list_of script_entry) (get (codes "scripts") d)) _ (λ _.
    none_after (if_there (list_of link_entry) (get (codes "links") d)) _ (λ _. none_here (hold_of v d) _ none))))

pub openings_needed : (v : Version) (d : Data) → lists_given v d ≡ None → members v d ≡ None
openings_needed v d none = after_items d _ (λ _ _ _ _ _ _. none_after (if_there (list_of start) (get (codes "starts") d)) _ (λ _.
    none_after (if_there (list_of script_entry) (get (codes "scripts") d)) _ (λ _.
    none_after (if_there (list_of link_entry) (get (codes "links") d)) _ (λ _. none_after (hold_of v d) _ (λ _. none_here (lists_given v d) _ none)))))
