mod Facings
