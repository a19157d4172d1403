use Rattle.std.proofs.Common.{◌≡◌, All, length, map, take, vec_capacity, vec_len}
use Rattle.std.specs.List.{AllZip}
use Rattle.stab_core.specs.LinkSetup.{setups}
use Rattle.stab_run.specs.AnyLinks.{IsOneOf, IsOpenedBy, IsScriptOf, given_to, kind_of}
use Rattle.stab_run.specs.LinkKinds.{kind_for}
use Rattle.stab_run.proofs.starts.make_links.Given as goal

-- the links so far were given the setups and the scripts so far, and are of their kinds; each has
-- its opening; and there is room for all
abbrev pub invariant-links : goal.invariant-links
invariant-links l = record {
  link_room : vec_capacity l.links ≡ length l.starts;
  opening_room : vec_capacity l.openings ≡ length l.starts;
  link_count : vec_len l.links ≡ l.place;
  opening_count : vec_len l.openings ≡ l.place;
  given : map given_to l.links.items ≡ take l.place (setups l.params l.starts);
  scripts : AllZip IsScriptOf (take l.place l.scripts) l.links.items;
  one_of : All (λ link. IsOneOf l.fn.which link) l.links.items;
  kinds : map kind_of l.links.items ≡ map (kind_for l.fn.which) (take l.place l.params);
  openings : AllZip IsOpenedBy l.links.items l.openings.items;
}
