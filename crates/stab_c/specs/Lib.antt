pub mod Meaning
pub mod NodeList
pub mod SessionMeaning
pub mod Word
