pub mod NamesAndItems
